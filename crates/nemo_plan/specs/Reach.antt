-- Which stages can be reached from a stage.
use Rattle.std.specs.Prelude.{◌≡◌, ◌↔◌, ℕ, true, List, slice_get, Some, take}
use Rattle.nemo_ir.specs.Flat.{FlatForm, IsFlat}
use Rattle.nemo_ir.specs.Valid.{Valid}
use Rattle.nemo_ir.specs.declared.dag.IrDag.{IrDag}
use Rattle.nemo_ir.specs.declared.dag.IrEdge.{IrEdge}
use Rattle.nemo_plan.specs.Stages.{is_reached, joins_stages, stages_of}

-- stage s itself, or where one more edge between stages leads
pub data Reach (es : List IrEdge) (stages : List ℕ) : ℕ → ℕ → Type 0 where
  here : (s : ℕ) → Reach es stages s s
  on : (s m t i : ℕ) (e : IrEdge) → Reach es stages s m → slice_get es i ≡ Some e → joins_stages stages m t e ≡ true → Reach es stages s t

-- However many vertices have their stages, as many steps as there are vertices reach all that can be reached.
abbrev pub ReachLaw : Type 0
ReachLaw = (flat : FlatForm) (dag : IrDag) → IsFlat flat → Valid flat dag → (n s t : ℕ)
    → (is_reached dag.edges (take n (stages_of flat dag)) s t ≡ true) ↔ Reach dag.edges (take n (stages_of flat dag)) s t
