-- Different kinds have different words.
use Rattle.std.proofs.Common.{◌≡◌, ◌∙◌, ap, sym, refl, ℕ, List, [], ◌∷◌, ◌==◌, Some}
use Rattle.std.specs.Prelude.{◌↔◌, if◌then◌else◌}
use Rattle.nemo_value.specs.Words.{kind_word}
use Rattle.nemo_value.specs.declared.expr.Kind.{Kind}
use Rattle.nemo_value.specs.declared.expr.Kind.TheVariants.{DivZero, Overflow, Typed, NoField, Wide, Long}

-- the kind whose word begins with a byte
kind_from : List ℕ → Kind
kind_from [] = Long
kind_from (b ∷ bs) = if b == 68 then DivZero else if b == 79 then Overflow else if b == 84 then Typed else if b == 78 then NoField else if b == 87 then Wide else Long

kind_from-word : (k : Kind) → kind_from (kind_word k) ≡ k
unfolding kind_from
kind_from-word DivZero = refl
kind_from-word Overflow = refl
kind_from-word Typed = refl
kind_from-word NoField = refl
kind_from-word Wide = refl
kind_from-word Long = refl

pub word_one : (j k : Kind) → kind_word j ≡ kind_word k → j ≡ k
word_one j k h = sym (kind_from-word j) ∙ ap kind_from h ∙ kind_from-word k

-- a text that is the word of a kind is that of no other
pub word_found : (word : List ℕ) (j : Kind) → word ≡ kind_word j → (k : Kind) → (Some j ≡ Some k) ↔ (word ≡ kind_word k)
word_found word j h k = (λ e. let same : j ≡ k = cc e in h ∙ ap kind_word same, λ e. ap Some (word_one j k (sym h ∙ e)))
