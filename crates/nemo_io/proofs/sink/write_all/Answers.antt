use Rattle.std.proofs.Common.{rules, ◌≡◌, ◌+◌, ◌-◌, take, drop, sym, subst, List, ℕ, Option, length, take-add, length-drop, take_all, arith}
use Rattle.std.proofs.KnownBytes.{Appends-trans}
use Rattle.std.specs.Io.KnownBytes.{Appends}
use Rattle.nemo_io.proofs.sink.write_all.Goals as goal

-- what was given in two steps
two_steps : (a b c : Option (List ℕ)) (m n : ℕ) (bytes : List ℕ) → Appends a b (take m bytes)
    → Appends b c (take n (take (length bytes - m) (drop m bytes))) → Appends a c (take (m + n) bytes)
two_steps a b c m n bytes p q =
    let all : take (length bytes - m) (drop m bytes) ≡ drop m bytes = take_all (length bytes - m) (drop m bytes) (omega (arith, length-drop m bytes)) in
    subst (Appends a c) (sym (take-add m n bytes)) (Appends-trans a b c (take m bytes) (take n (drop m bytes)) p (subst (λ l. Appends b c (take n l)) all q))

pub loop-done-preserved : goal.loop-done-preserved
loop-done-preserved g c = record {
  in_range = search rules;
  given = two_steps (g.K.Sink.given c.args.sink.now) (g.K.Sink.given c.loop-done.sink) (g.K.Sink.given c.give.new.self) c.loop-done.done c.in_ok-n.n c.args.bytes.now c.loop-done.invariant.given c.in_ok-n.ensures.bytes;
  kept = search rules;
}
