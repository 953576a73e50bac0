-- A word names the one way to fold whose word it is.
use Rattle.std.proofs.Common.{◌≡◌, ◌∙◌, refl, sym, ap, ℕ, List, Option, Some, None, false}
use Rattle.std.proofs.lemmas.Bool.{false_from_ne_true}
use Rattle.std.proofs.lemmas.Slice.Eq.{bytes_eq-Decides}
use Rattle.std.specs.Prelude.{◌↔◌}
use Rattle.nemo_value.specs.Texts.{same_text}
use Rattle.nemo_transform.specs.Words.{folding_word}
use Rattle.nemo_transform.specs.declared.transform.Folding.{Folding}
use Rattle.nemo_transform.specs.declared.transform.Folding.TheVariants.{Sum, Min, Max, Count}
use Rattle.nemo_read.specs.Vertices.{folding_of}

own_word : (by : Folding) → Some by ≡ folding_of (folding_word by)
own_word Sum = refl
own_word Min = refl
own_word Max = refl
own_word Count = refl

module _ (word : List ℕ) (none : (by : Folding) → word ≡ folding_word by → ⊥) where
  other_word : (by : Folding) → same_text word (folding_word by) ≡ false
  other_word by = false_from_ne_true (same_text word (folding_word by)) (λ e. none by ((bytes_eq-Decides word (folding_word by)).0 e))

  no_folding : None ≡ folding_of word
  no_folding = rw (other_word Sum, other_word Min, other_word Max, other_word Count) refl

pub folding_found : (word : List ℕ) (r : Option Folding) → ((by : Folding) → (r ≡ Some by) ↔ (word ≡ folding_word by)) → r ≡ folding_of word
folding_found word (Some by) h = own_word by ∙ sym (ap folding_of ((h by).0 refl))
folding_found word None h = no_folding word (λ by e. let is : None ≡ Some by = (h by).1 e in cc)
