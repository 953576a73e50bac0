-- Orders of stages in which every edge between two of them goes forward.
use Rattle.std.specs.Prelude.{◌≡◌, ◌<◌, ◌≤◌, ℕ, suc, ◌==◌, Bool, not, List, [], ◌∷◌, ◌++◌, length, filter, slice_get, Some, if◌then◌else◌}
use Rattle.nemo_ir.specs.declared.dag.IrEdge.{IrEdge}
use Rattle.nemo_plan.specs.Stages.{count_stages, stage_at}

-- the first place of a number, and past the end where it stands nowhere
abbrev pub place : List ℕ → ℕ → ℕ
place [] a = 0
place (x ∷ xs) a = if x == a then 0 else suc (place xs a)

-- first those that fail a test, then those that pass it
abbrev pub parted : (ℕ → Bool) → List ℕ → List ℕ
parted p xs = filter (λ x. not (p x)) xs ++ filter p xs

pub record IsForward (es : List IrEdge) (stages order : List ℕ) : Type 0 where
  pub count : length order ≡ count_stages stages
  pub inside : (s : ℕ) → s < count_stages stages → place order s < length order
  pub outside : (s : ℕ) → count_stages stages ≤ s → place order s ≡ length order
  pub rises : (i s t : ℕ) (e : IrEdge) → slice_get es i ≡ Some e → stage_at stages e.from ≡ Some s → stage_at stages e.to ≡ Some t → (s ≡ t → ⊥) → place order s < place order t
