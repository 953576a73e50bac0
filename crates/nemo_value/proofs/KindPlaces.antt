-- The derived order of kinds is the stated one.
use Rattle.std.proofs.Common.{◌≡◌, ◌∙◌, ap, sym, refl, ℕ, zero, suc}
use Rattle.std.specs.FinMap.{IsAntisymmetric, nat_cmp-IsAntisymmetric}
use Rattle.std.specs.declared.cmp.Ordering.{Ordering}
use Rattle.nemo_value.specs.KindOrder.{kind_cmp, kind_place}
use Rattle.nemo_value.specs.declared.expr.Kind.{Kind}
use Rattle.nemo_value.specs.declared.expr.Kind.TheVariants.{DivZero, Overflow, Typed, NoField, Wide, Long}
use Rattle.nemo_value.specs.contracts.expr.KindOrd.TheImpl.{ghosts}

abbrev pub derived_cmp : Kind → Kind → Ordering
derived_cmp = ghosts.cmp

pub kind_cmp_is : (a b : Kind) → derived_cmp a b ≡ kind_cmp a b
kind_cmp_is DivZero DivZero = refl
kind_cmp_is Overflow DivZero = refl
kind_cmp_is Typed DivZero = refl
kind_cmp_is NoField DivZero = refl
kind_cmp_is Wide DivZero = refl
kind_cmp_is Long DivZero = refl
kind_cmp_is _ _ = refl

-- the kind at a place
kind_at : ℕ → Kind
kind_at zero = DivZero
kind_at (suc zero) = Overflow
kind_at (suc (suc zero)) = Typed
kind_at (suc (suc (suc zero))) = NoField
kind_at (suc (suc (suc (suc zero)))) = Wide
kind_at (suc (suc (suc (suc (suc n))))) = Long

kind_at-place : (k : Kind) → kind_at (kind_place k) ≡ k
unfolding kind_at
kind_at-place DivZero = refl
kind_at-place Overflow = refl
kind_at-place Typed = refl
kind_at-place NoField = refl
kind_at-place Wide = refl
kind_at-place Long = refl

pub kind_one : IsAntisymmetric kind_cmp
kind_one a b h = sym (kind_at-place a) ∙ ap kind_at (nat_cmp-IsAntisymmetric (kind_place a) (kind_place b) h) ∙ kind_at-place b
