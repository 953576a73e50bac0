-- What the stages made so far keep, as the code reads it.
use Rattle.std.proofs.Common.{arith, ◌≡◌, ◌∙◌, ap, sym, ℕ, ◌<◌, ◌≤◌, List, get_or, length, slice_get, Some}
use Rattle.std.proofs.lemmas.Option.{get_or_from_slice_get, slice_get_within}
use Rattle.nemo_ir.specs.declared.dag.IrDag.{IrDag}
use Rattle.nemo_plan.specs.Graph.{vertices_of}
use Rattle.nemo_plan.specs.Making.{IsMaking}
use Rattle.nemo_plan.specs.Stages.{count_stages}
use Rattle.nemo_plan.specs.declared.cut.Making.{Making}
use Rattle.nemo_ir.proofs.Tables.{at_below, long_below}
use Rattle.nemo_plan.proofs.Memberships.{at_in}
use Rattle.nemo_plan.proofs.StageReads.{vertex_in}

pub vertex_low : (stages : List ℕ) (s i v : ℕ) → slice_get (vertices_of stages s) i ≡ Some v → v < length stages
vertex_low stages s i v e = slice_get_within stages v s (vertex_in stages s v (at_in (vertices_of stages s) i v e))

module _ (dag : IrDag) (made : Making) (is : IsMaking dag made) where
  pub members_long : length made.members.items ≡ count_stages made.stages
  members_long = ap length is.members ∙ long_below (vertices_of made.stages) (count_stages made.stages)

  pub members_at : (s : ℕ) (d : List ℕ) → s < count_stages made.stages → get_or made.members.items s d ≡ vertices_of made.stages s
  members_at s d l = ap (λ t. get_or t s d) is.members ∙ at_below (vertices_of made.stages) (count_stages made.stages) s d l

  pub members_low : (s i v : ℕ) → slice_get (vertices_of made.stages s) i ≡ Some v → v < length dag.vertices
  members_low s i v e =
      let l : v < length made.stages = vertex_low made.stages s i v e in
      let m : length made.stages ≤ length dag.vertices = is.within in
      omega arith

  pub members_item : (s : ℕ) (ms : List ℕ) → slice_get made.members.items s ≡ Some ms → ms ≡ vertices_of made.stages s
  members_item s ms e =
      let inside : s < length made.members.items = slice_get_within made.members.items s ms e in
      let size : length made.members.items ≡ count_stages made.stages = members_long in
      sym (get_or_from_slice_get made.members.items s ms ms e) ∙ members_at s ms (omega arith)

  pub item_low : (s : ℕ) (ms : List ℕ) → slice_get made.members.items s ≡ Some ms → (i v : ℕ) → slice_get ms i ≡ Some v → v < length dag.vertices
  item_low s ms e i v at = members_low s i v (ap (λ xs. slice_get xs i) (sym (members_item s ms e)) ∙ at)
