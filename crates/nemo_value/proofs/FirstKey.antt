-- The key list of the first field alone.
use Rattle.std.proofs.Common.{◌≡◌, refl, ap, List, [], ◌∷◌, Some}
use Rattle.std.specs.Prelude.{slice_get}
use Rattle.nemo_value.specs.Bucket.{bucket_of}
use Rattle.nemo_value.specs.Key.{key_by, first_key, row_bucket}
use Rattle.nemo_value.specs.declared.field.Field.{Field}

pub key_of_first : (f : Field) (fs : List Field) → key_by first_key (f ∷ fs) ≡ Some (f ∷ [])
key_of_first f fs = refl

pub bucket_of_first : (f : Field) (fs : List Field) → row_bucket first_key (f ∷ fs) ≡ bucket_of f
bucket_of_first f fs = refl

pub key_by_first : (row : List Field) (f : Field) → slice_get row 0 ≡ Some f → key_by first_key row ≡ Some (f ∷ [])
key_by_first [] f e = absurd (cc e)
key_by_first (g ∷ gs) f e = let same : g ≡ f = cc e in ap (λ x. Some (x ∷ [])) same

pub row_bucket_first : (row : List Field) (f : Field) → slice_get row 0 ≡ Some f → row_bucket first_key row ≡ bucket_of f
row_bucket_first [] f e = absurd (cc e)
row_bucket_first (g ∷ gs) f e = let same : g ≡ f = cc e in ap bucket_of same
