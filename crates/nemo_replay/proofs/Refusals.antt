-- Whether an event is refused, condition by condition.
use Rattle.std.proofs.Common.{◌≡◌, ◌∙◌, ap, refl, ℕ, zero, suc, not, slice_get, List, [], ◌∷◌, Bool, true, false, Some, None, is_none, if◌then◌else◌}
use Rattle.nemo_base.specs.Places.{passes}
use Rattle.nemo_base.specs.declared.why.Why.{Why}
use Rattle.nemo_core.specs.Step.{first_failing}

-- every condition holds
abbrev pub AllMet : List (Bool × Why) → Type 0
AllMet [] = Unit {0}
AllMet (c ∷ cs) = (c.0 ≡ true) × AllMet cs

pub all_met : (cs : List (Bool × Why)) → AllMet cs → first_failing cs ≡ None
all_met [] h = refl
all_met (c ∷ cs) h = ap (λ b. if b then first_failing cs else Some c.1) h.0 ∙ all_met cs h.1

-- the first condition fails
pub fails_here : (b : Bool) (why : Why) (cs : List (Bool × Why)) → b ≡ false → first_failing ((b, why) ∷ cs) ≡ Some why
fails_here b why cs h = ap (λ t. if t then first_failing cs else Some why) h

-- the condition at this place fails
pub fails_at : (cs : List (Bool × Why)) (i : ℕ) → passes (λ c. not c.0) (slice_get cs i) ≡ true → is_none (first_failing cs) ≡ false
fails_at [] i h = cc
fails_at (c ∷ cs) zero h = go c.0 h
  where
    go : (b : Bool) → not b ≡ true → is_none (if b then first_failing cs else Some c.1) ≡ false
    go true h = cc
    go false h = refl
fails_at (c ∷ cs) (suc i) h = go c.0 (fails_at cs i h)
  where
    go : (b : Bool) → is_none (first_failing cs) ≡ false → is_none (if b then first_failing cs else Some c.1) ≡ false
    go true h = h
    go false h = refl
