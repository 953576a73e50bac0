use Rattle.std.proofs.Common.{arith, ◌≡◌, ◌≤◌, ◌+◌, take, drop, sym, ap, List, ℕ, ◌∙◌, length, ◌++◌, length-drop, length-take}
use Rattle.std.proofs.lemmas.List.{drop-drop, take_at, take-append-drop}
use Rattle.std.proofs.lemmas.Grind.{common_steps}
use Rattle.nemo_io.proofs.memory.copy_piece.Goals as goal

-- a piece at the front of the new bytes, and what is left behind it
moved : (at n : ℕ) (bytes new tail : List ℕ) → new ≡ take n (drop at bytes) ++ tail → at + n ≤ length bytes → drop at bytes ≡ take n new ++ drop (at + n) bytes
moved at n bytes new tail e h =
    let piece = take n (drop at bytes) in
    let size : length piece ≡ n = simp (length-take, length-drop) (omega arith) in
    let front : take n new ≡ piece = ap (take n) e ∙ take_at piece tail n size in
    sym (take-append-drop n (drop at bytes)) ∙ ap (λ rest. piece ++ rest) (drop-drop n at bytes) ∙ ap (λ l. l ++ drop (at + n) bytes) (sym front)

pub returns-clause-moved : goal.returns-clause-moved
returns-clause-moved c =
    let n = c.min-n.result in
    let tail = drop n c.args.to.now in
    let piece : c.copy_from_slice.new.self ≡ take n (drop c.args.at c.args.bytes.now) = grind (arith, common_steps) in
    moved c.args.at n c.args.bytes.now (c.copy_from_slice.new.self ++ tail) tail (ap (λ l. l ++ tail) piece) (omega (arith, length-drop {A = ℕ}, length-take {A = ℕ}))
