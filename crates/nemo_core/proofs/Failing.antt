-- The first condition that fails of two lists, one after the other.
use Rattle.std.proofs.Common.{◌≡◌, List, [], ◌∷◌, ◌++◌, Bool, true, false, Some, sym, ap, ◌∙◌}
use Rattle.std.specs.Prelude.{Option, if◌then◌else◌}
use Rattle.nemo_base.specs.declared.why.Why.{Why}
use Rattle.nemo_core.specs.Step.{first_failing}

early_if : (b : Bool) (why w : Why) (xs ys : List (Bool × Why)) → ((first_failing xs ≡ Some w) → first_failing (xs ++ ys) ≡ Some w) → first_failing ((b, why) ∷ xs) ≡ Some w → first_failing (((b, why) ∷ xs) ++ ys) ≡ Some w
early_if true why w xs ys next h = next h
early_if false why w xs ys next h = h

-- it fails in the first
pub early : (xs ys : List (Bool × Why)) (w : Why) → first_failing xs ≡ Some w → first_failing (xs ++ ys) ≡ Some w
early [] ys w h = cc
early (x ∷ xs) ys w h = early_if x.0 x.1 w xs ys (early xs ys w) h

-- a last condition that holds
met : (xs : List (Bool × Why)) (b : Bool) (w : Why) → b ≡ true → first_failing (xs ++ (b, w) ∷ []) ≡ first_failing xs
met [] b w e = ap (λ t. first_failing ((t, w) ∷ [])) e
met (x ∷ xs) b w e = ap (λ o. if x.0 then o else Some x.1) (met xs b w e)

-- so do the first and the last
pub between : (first last : Bool) (xs : List (Bool × Why)) (v w : Why) (r : Option Why) → first ≡ true → last ≡ true → r ≡ first_failing xs → r ≡ first_failing ((first, v) ∷ (xs ++ (last, w) ∷ []))
between first last xs v w r e h is = is ∙ sym (met xs last w h) ∙ ap (λ t. if t then first_failing (xs ++ (last, w) ∷ []) else Some v) (sym e)
