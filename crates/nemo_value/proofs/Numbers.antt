-- Records whose first fields are different numbers.
use Rattle.std.proofs.Common.{◌≡◌, ◌≢◌, refl, ℤ, [], ◌∷◌, List, Some}
use Rattle.std.specs.FinMap.{int_cmp-IsAntisymmetric}
use Rattle.std.specs.Ordering.{int_cmp, ordering_then}
use Rattle.std.specs.declared.cmp.Ordering.{Ordering}
use Rattle.std.specs.declared.cmp.Ordering.TheVariants.{Less, Equal, Greater}
use Rattle.nemo_value.specs.Order.{record_cmp, number_of}
use Rattle.nemo_value.specs.declared.field.Field.{Field}
use Rattle.nemo_value.specs.declared.field.Field.TheVariants.{Int, Text}

first_decides : (o p : Ordering) → o ≢ Equal → ordering_then o p ≡ o
first_decides Less p h = refl
first_decides Equal p h = absurd (h refl)
first_decides Greater p h = refl

-- the numbers decide
pub by_number : (a b : List Field) (x y : ℤ) → number_of a ≡ Some x → number_of b ≡ Some y → x ≢ y → record_cmp a b ≡ int_cmp x y
by_number (Int v ∷ fs) (Int w ∷ gs) x y h k d = cc (first_decides (int_cmp v w) (record_cmp fs gs) (λ e. d (cc (int_cmp-IsAntisymmetric v w e))))
by_number (Int v ∷ fs) (Text t ∷ gs) x y h k d = absurd (cc k)
by_number (Int v ∷ fs) [] x y h k d = absurd (cc k)
by_number (Text t ∷ fs) b x y h k d = absurd (cc h)
by_number [] b x y h k d = absurd (cc h)
