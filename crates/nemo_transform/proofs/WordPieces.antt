-- The pieces of a text, as `split` gives them.
use Rattle.std.proofs.Common.{◌≡◌, ◌∷◌, [], List, ℕ, map, filter, refl, ap, ◌∙◌, Bool, true, false, eqb, cond}
use Rattle.std.specs.List.{slice_split, onto_first}
use Rattle.nemo_value.specs.declared.field.Field.TheVariants.{Text}
use Rattle.nemo_transform.specs.Gives.{Row, pieces, in_pieces, is_filled}

-- a row of one text for each filled piece
abbrev pub word_rows : List (List ℕ) → List Row
word_rows ws = map (λ w. Text w ∷ []) (filter is_filled ws)

either_filled : (test : Bool) (b : ℕ) (w : List ℕ) (ws : List (List ℕ)) → is_filled (cond test ([] ∷ w ∷ ws) ((b ∷ w) ∷ ws)) ≡ true
either_filled true b w ws = refl
either_filled false b w ws = refl

-- a text has a piece
in_pieces-filled : (b : ℕ) (parts : List (List ℕ)) → is_filled parts ≡ true → is_filled (in_pieces b parts) ≡ true
in_pieces-filled b [] h = h
in_pieces-filled b (w ∷ ws) h = either_filled (eqb b 32) b w ws

pieces-filled : (bs : List ℕ) → is_filled (pieces bs) ≡ true
pieces-filled [] = refl
pieces-filled (b ∷ bs) = in_pieces-filled b (pieces bs) (pieces-filled bs)

one_more : (b : ℕ) (parts : List (List ℕ)) → is_filled parts ≡ true → cond (eqb b 32) ([] ∷ parts) (onto_first b parts) ≡ in_pieces b parts
one_more b [] h = cc
one_more b (w ∷ ws) h = refl

pub split_is_pieces : (bs : List ℕ) → slice_split (λ b. eqb b 32) bs ≡ pieces bs
split_is_pieces [] = refl
split_is_pieces (b ∷ bs) =
    ap (λ parts. cond (eqb b 32) ([] ∷ parts) (onto_first b parts)) (split_is_pieces bs)
    ∙ one_more b (pieces bs) (pieces-filled bs)
