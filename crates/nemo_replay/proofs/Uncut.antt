-- An assignment that deals every bucket to the last task of each vertex.
use Rattle.std.proofs.Common.{arith, ◌≡◌, ◌∙◌, ap, sym, ℕ, suc, ◌-◌, ◌≤◌, ◌&&◌, List, [], length, replicate, slice_get, true, Some, Option, None, nat_le, nat_lt}
use Rattle.std.proofs.Math.ListN.{length-replicate}
use Rattle.std.proofs.lemmas.Bool.{leb-true}
use Rattle.std.proofs.lemmas.Option.{slice_get_within}
use Rattle.std.specs.Cmp.{first_so, second_so}
use Rattle.nemo_ir.specs.Along.{passes}
use Rattle.nemo_ir.specs.Flat.{FlatForm}
use Rattle.nemo_ir.specs.Rewrites.{IsAssignment}
use Rattle.nemo_ir.specs.Valid.{Valid, is_within}
use Rattle.nemo_ir.specs.declared.dag.IrDag.{IrDag}
use Rattle.nemo_ir.specs.declared.dag.IrVertex.{IrVertex}

abbrev pub cuts_for : Option IrVertex → List ℕ
cuts_for (Some u) = replicate (u.parallelism - 1) 0
cuts_for None = []

abbrev pub uncut : IrDag → ℕ → List ℕ
uncut dag v = cuts_for (slice_get dag.vertices v)

less_one : (n : ℕ) → 1 ≤ n → suc (n - 1) ≡ n
less_one n h = omega arith

-- it has a cut less than each vertex has tasks
pub uncut_fits : (flat : FlatForm) (dag : IrDag) → Valid flat dag → IsAssignment dag (uncut dag)
uncut_fits flat dag valid v u e =
    let within : is_within v u ≡ true = sym (ap (passes (is_within v)) e) ∙ valid.v9 v (slice_get_within dag.vertices v u e) in
    let low = first_so (nat_lt v 4096 && nat_le 1 u.parallelism) (nat_le u.parallelism 64) within in
    let some : 1 ≤ u.parallelism = leb-true 1 u.parallelism (second_so (nat_lt v 4096) (nat_le 1 u.parallelism) low) in
    ap suc (ap (λ o. length (cuts_for o)) e ∙ length-replicate (u.parallelism - 1) 0) ∙ less_one u.parallelism some
