use Rattle.std.proofs.Common.{arith, refl, Result, Ok, Err, ◌≡◌, ◌≤◌, ◌+◌, ℕ, List, length, take, ◌++◌, length-append, length-take}
use Rattle.std.proofs.KnownBytes.{Consumes-trans}
use Rattle.std.specs.Result.{IsErrAnd}
use Rattle.nemo_io.specs.declared.source.ReadRefused.{ReadRefused}
use Rattle.nemo_io.specs.declared.source.ReadRefused.TheVariants.{NoMemory, TooLong}
use Rattle.nemo_io.proofs.source.read_to_end.Goals as goal

-- what was kept, and the last piece
with_piece : (all buf : List ℕ) (n : ℕ) → n ≤ length buf → length (all ++ take n buf) ≡ length all + n
with_piece all buf n within = omega (arith, length-append all (take n buf), length-take n buf)

-- want of memory isn't a content that is too long
spent_not_long : {T : Type 0} (r : Result T ReadRefused) → IsErrAnd r (λ e. e ≡ NoMemory) → r ≡ Err TooLong → ⊥
spent_not_long (Ok x) spent long = spent
spent_not_long (Err e) spent long = cc (spent, long)

-- the last piece was taken too, but not kept
pub returns-then-n-len-clause-taken : goal.returns-then-n-len-clause-taken
returns-then-n-len-clause-taken g c =
    let left = g.S.Source.left in
    let all = c.loop.all.items in
    let piece = take c.in_ok-n.n c.take.new.buf in
    let size = with_piece all c.take.new.buf c.in_ok-n.n c.in_ok-n.ensures.bound.0 in
    (all ++ piece, Consumes-trans (left c.args.source.now) (left c.loop.source) (left c.take.new.self) all piece c.loop.invariant.taken c.in_ok-n.ensures.bytes.0, ((λ _. grind (arith, size)), (λ _. refl)))

pub returns-in_err-extend_from_slice-clause-taken : goal.returns-in_err-extend_from_slice-clause-taken
returns-in_err-extend_from_slice-clause-taken g c =
    let left = g.S.Source.left in
    let all = c.loop.all.items in
    let piece = take c.in_ok-n.n c.take.new.buf in
    let size = with_piece all c.take.new.buf c.in_ok-n.n c.in_ok-n.ensures.bound.0 in
    (all ++ piece, Consumes-trans (left c.args.source.now) (left c.loop.source) (left c.take.new.self) all piece c.loop.invariant.taken c.in_ok-n.ensures.bytes.0, ((λ too_long. absurd (spent_not_long c.from_residual-in_err-extend_from_slice.result c.from_residual-in_err-extend_from_slice.ensures.1 too_long)), (λ many. absurd (grind (arith, size, many)))))
