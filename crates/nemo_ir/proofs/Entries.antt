-- Lists made entry by entry, place by place.
use Rattle.std.proofs.Common.{arith, ◌≡◌, ◌∙◌, ap, sym, refl, ℕ, zero, suc, ◌+◌, ◌<◌, List, [], ◌∷◌, ◌++◌, append-nil, append_assoc, length, length-append, take, slice_get, get_or, Some}
use Rattle.std.proofs.lemmas.List.{get_or_at, length-take-le, take-append-le, take_all}
use Rattle.std.proofs.lemmas.Option.{slice_get_within}
use Rattle.nemo_ir.specs.Along.{along}
use Rattle.nemo_ir.proofs.Places.{from_none}

-- the first entries stay, and one comes for each item
record Kept {A : Type 0} (done all : List A) (n : ℕ) : Type 0 where
  rest : List A
  is : all ≡ done ++ rest
  count : length rest ≡ n

module _ {V A : Type 0} (step : List A → V → A) where
  kept : (done : List A) (vs : List V) → Kept done (along step done vs) (length vs)
  kept done [] = record { rest = []; is = sym (append-nil done); count = refl }
  kept done (v ∷ vs) =
      let k = kept (done ++ step done v ∷ []) vs in
      record { rest = step done v ∷ k.rest; is = k.is ∙ append_assoc done (step done v ∷ []) k.rest; count = ap suc k.count }

  pub along_length : (vs : List V) → length (along step [] vs) ≡ length vs
  along_length vs = let k = kept [] vs in ap length k.is ∙ k.count

  along_from : (done : List A) (vs : List V) (j : ℕ) (v : V) (d : A) → slice_get vs j ≡ Some v
      → get_or (along step done vs) (length done + j) d ≡ step (take (length done + j) (along step done vs)) v
  along_from done [] j v d e = cc
  along_from done (w ∷ vs) zero v d e =
      let more : List A = done ++ step done w ∷ [] in
      let k = kept more vs in
      let all : along step more vs ≡ done ++ (step done w ∷ k.rest) = k.is ∙ append_assoc done (step done w ∷ []) k.rest in
      let n : length done + 0 ≡ length done = omega arith in
      let here : get_or (done ++ (step done w ∷ k.rest)) (length done) d ≡ step done w = get_or_at done (step done w) k.rest d (length done) refl in
      let before : take (length done) (done ++ (step done w ∷ k.rest)) ≡ done = take-append-le (length done) done (step done w ∷ k.rest) (omega arith) ∙ take_all (length done) done (omega arith) in
      let same : w ≡ v = cc in
      ap (λ m. get_or (along step more vs) m d) n ∙ ap (λ l. get_or l (length done) d) all ∙ here
      ∙ ap (step done) same ∙ ap (λ l. step l v) (sym (ap (λ m. take m (along step more vs)) n ∙ ap (take (length done)) all ∙ before))
  along_from done (w ∷ vs) (suc j) v d e =
      let more : List A = done ++ step done w ∷ [] in
      let n : length done + suc j ≡ length more + j = omega (arith, length-append done (step done w ∷ [])) in
      ap (λ m. get_or (along step more vs) m d) n ∙ along_from more vs j v d e ∙ ap (λ m. step (take m (along step more vs)) v) (sym n)

  -- the entry at a place is made of those before it
  pub along_at : (vs : List V) (i : ℕ) (v : V) (d : A) → slice_get vs i ≡ Some v → get_or (along step [] vs) i d ≡ step (take i (along step [] vs)) v
  along_at vs i v d e =
      ap (λ m. get_or (along step [] vs) m d) (sym (from_none i)) ∙ along_from [] vs i v d e ∙ ap (λ m. step (take m (along step [] vs)) v) (from_none i)

  pub along_before : (vs : List V) (i : ℕ) (v : V) → slice_get vs i ≡ Some v → length (take i (along step [] vs)) ≡ i
  along_before vs i v e =
      let long : length (along step [] vs) ≡ length vs = along_length vs in
      let inside : i < length vs = slice_get_within vs i v e in
      length-take-le i (along step [] vs) (omega arith)
