-- The order of fields is total, and fields that tie are equal.
use Rattle.std.specs.Prelude.{◌≡◌, refl, true}
use Rattle.std.proofs.Common.{ap, sym, true≢false}
use Rattle.std.specs.Cmp.{IsTotalOrder, int_cmp_total, Equal-is}
use Rattle.std.specs.Cmp.Lexicographic.{nat_list_cmp_total}
use Rattle.std.specs.FinMap.{IsAntisymmetric, int_cmp-IsAntisymmetric, nat_cmp-IsAntisymmetric, slice_cmp-IsAntisymmetric}
use Rattle.std.specs.Ordering.{ordering_reverse, eq_by_cmp, is_lt, is_eq}
use Rattle.std.specs.declared.cmp.Ordering.TheVariants.{Less, Equal}
use Rattle.nemo_value.specs.Order.{field_cmp}
use Rattle.nemo_value.specs.declared.field.Field.{Field}
use Rattle.nemo_value.specs.declared.field.Field.TheVariants.{Int, Text}

antisymm : (a b : Field) → field_cmp a b ≡ ordering_reverse (field_cmp b a)
antisymm (Int x) (Int y) = int_cmp_total.antisymm x y
antisymm (Int x) (Text t) = refl
antisymm (Text s) (Int y) = refl
antisymm (Text s) (Text t) = nat_list_cmp_total.antisymm s t

trans : (a b c : Field) → field_cmp a b ≡ Less → field_cmp b c ≡ Less → field_cmp a c ≡ Less
trans (Int x) (Int y) (Int z) p q = int_cmp_total.trans x y z p q
trans (Int x) (Int y) (Text u) p q = refl
trans (Int x) (Text t) (Int z) p q = absurd (true≢false (sym (ap is_lt q)))
trans (Int x) (Text t) (Text u) p q = refl
trans (Text s) (Int y) c p q = absurd (true≢false (sym (ap is_lt p)))
trans (Text s) (Text t) (Int z) p q = absurd (true≢false (sym (ap is_lt q)))
trans (Text s) (Text t) (Text u) p q = nat_list_cmp_total.trans s t u p q

congr : (a b c : Field) → field_cmp a b ≡ Equal → field_cmp a c ≡ field_cmp b c
congr (Int x) (Int y) (Int z) p = int_cmp_total.congr x y z p
congr (Int x) (Int y) (Text u) p = refl
congr (Int x) (Text t) c p = absurd (true≢false (sym (ap is_eq p)))
congr (Text s) (Int y) c p = absurd (true≢false (sym (ap is_eq p)))
congr (Text s) (Text t) (Int z) p = refl
congr (Text s) (Text t) (Text u) p = nat_list_cmp_total.congr s t u p

pub field_total : IsTotalOrder field_cmp
field_total = record { antisymm = antisymm; trans = trans; congr = congr }

pub field_one : IsAntisymmetric field_cmp
field_one (Int x) (Int y) h = ap Int (int_cmp-IsAntisymmetric x y h)
field_one (Int x) (Text t) h = absurd (true≢false (sym (ap is_eq h)))
field_one (Text s) (Int y) h = absurd (true≢false (sym (ap is_eq h)))
field_one (Text s) (Text t) h = ap Text (slice_cmp-IsAntisymmetric nat_cmp-IsAntisymmetric s t h)

-- what is made of equal fields is equal
pub made_alike : {X : Type 0} (f : Field → X) (x y : Field) → eq_by_cmp field_cmp x y ≡ true → f x ≡ f y
made_alike f x y h = ap f (field_one x y ((Equal-is (field_cmp x y)).0 h))
