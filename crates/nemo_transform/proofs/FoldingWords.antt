-- Different ways to fold have different words.
use Rattle.std.proofs.Common.{◌≡◌, ◌∙◌, ap, sym, refl, ℕ, List, [], ◌∷◌, ◌==◌, Some}
use Rattle.std.specs.Prelude.{◌↔◌, if◌then◌else◌}
use Rattle.nemo_transform.specs.Words.{folding_word}
use Rattle.nemo_transform.specs.declared.transform.Folding.{Folding}
use Rattle.nemo_transform.specs.declared.transform.Folding.TheVariants.{Sum, Min, Max, Count}

-- the way to fold whose word has a byte at place 1
folding_from : List ℕ → Folding
folding_from [] = Count
folding_from (a ∷ []) = Count
folding_from (a ∷ b ∷ bs) = if b == 117 then Sum else if b == 105 then Min else if b == 97 then Max else Count

folding_from-word : (by : Folding) → folding_from (folding_word by) ≡ by
unfolding folding_from
folding_from-word Sum = refl
folding_from-word Min = refl
folding_from-word Max = refl
folding_from-word Count = refl

word_one : (by other : Folding) → folding_word by ≡ folding_word other → by ≡ other
word_one by other h = sym (folding_from-word by) ∙ ap folding_from h ∙ folding_from-word other

-- a text that is the word of a way to fold is that of no other
pub word_found : (word : List ℕ) (by : Folding) → word ≡ folding_word by → (other : Folding) → (Some by ≡ Some other) ↔ (word ≡ folding_word other)
word_found word by h other = (λ e. let same : by ≡ other = cc e in h ∙ ap folding_word same, λ e. ap Some (word_one by other (sym h ∙ e)))
