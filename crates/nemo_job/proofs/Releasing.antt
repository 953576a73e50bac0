-- Rows that are let go.
use Rattle.std.proofs.Common.{◌≡◌, ◌∙◌, ◌≢◌, refl, sym, ap, subst, ℕ, zero, suc, ◌<◌, ◌≤◌, List, [], ◌∷◌, length, map, get_or, set, Option, Some, None, true, eqb, arith}
use Rattle.std.specs.Prelude.{slice_get, All}
use Rattle.std.specs.Option.{option_eq}
use Rattle.std.proofs.lemmas.Option.{slice_get-get_or}
use Rattle.std.proofs.lemmas.Bool.{eqb-true}
use Rattle.std.proofs.lemmas.List.Elements.{All-get_or}
use Rattle.std.proofs.lemmas.List.{get_or-map, map-set, length-map}
use Rattle.std.proofs.Math.ListN.{length-set}
use Rattle.std.proofs.Math.Seq.{map-set_same}
use Rattle.nemo_transform.specs.Through.{Batch}
use Rattle.nemo_job.specs.Held.{IsReleased, known}
use Rattle.nemo_job.specs.declared.held.Held.{Held}

slice_get_other : {X : Type 0} (xs : List X) (j k : ℕ) (y : X) → k ≢ j → slice_get (set xs j y) k ≡ slice_get xs k
slice_get_other [] j k y apart = refl
slice_get_other (x ∷ xs) zero zero y apart = absurd (apart refl)
slice_get_other (x ∷ xs) zero (suc k) y apart = refl
slice_get_other (x ∷ xs) (suc j) zero y apart = refl
slice_get_other (x ∷ xs) (suc j) (suc k) y apart = slice_get_other xs j k y (λ e. apart (ap suc e))

pub released_none : (last : List (Option ℕ)) (place : ℕ) (old : List Batch) → IsReleased last place old old
released_none last place old = record { size = refl; first = refl; rows = λ k h. refl }

pub released_then : (last : List (Option ℕ)) (place : ℕ) (a b c : List Batch) → IsReleased last place a b → IsReleased last place b c → IsReleased last place a c
released_then last place a b c p q = record {
  size = q.size ∙ p.size;
  first = q.first ∙ p.first;
  rows = λ k h. q.rows k h ∙ p.rows k h;
}

-- one item is changed, but not its first fault
pub released_one : (last : List (Option ℕ)) (place j : ℕ) (old : List Held) (h g : Held) → j < length old → h ≡ get_or old j h → g.first ≡ h.first → slice_get last j ≡ Some (Some place) → IsReleased last place (map known old) (map known (set old j g))
released_one last place j old h g within is same at =
    let here : (known g).first ≡ (get_or (map known old) j (known h)).first =
    ap (λ f. (known (record h { first = f })).first) same ∙ ap (λ k. (known k).first) is ∙ sym (ap (λ k. k.first) (get_or-map known old j h (known h) within)) in
    record {
      size = length-map (set old j g) known ∙ length-set old j g ∙ sym (length-map old known);
      first = ap (map (λ k. k.first)) (map-set known old j g) ∙ map-set_same (λ k. k.first) (map known old) j (known g) (known h) here;
      rows = λ k apart.
          let other : k ≢ j = λ e. apart (ap (slice_get last) e ∙ at) in
          ap (λ l. slice_get l k) (map-set known old j g) ∙ slice_get_other (map known old) j k (known g) other;
    }

-- what the code's test says: the vertex of this place is the last that takes the rows
pub last_here : (last : List (Option ℕ)) (place j : ℕ) → j < length last → option_eq eqb (get_or last j None) (Some place) ≡ true → slice_get last j ≡ Some (Some place)
last_here last place j within e = slice_get-get_or last j None within ∙ ap Some (go (get_or last j None) e)
  where
    go : (u : Option ℕ) → option_eq eqb u (Some place) ≡ true → u ≡ Some place
    go None h = cc
    go (Some w) h = ap Some (eqb-true w place h)

-- the rows of one input more are let go
pub released_more : (last : List (Option ℕ)) (place : ℕ) (first held new : List Held) (inputs : List ℕ) (i : ℕ) (h g : Held) → length held ≡ length first → IsReleased last place (map known first) (map known held) → All (λ j. j < length first) inputs → length first ≤ length last → i < length inputs
    → option_eq eqb (get_or last (get_or inputs i 0) None) (Some place) ≡ true → h ≡ get_or held (get_or inputs i 0) h → g.first ≡ h.first → new ≡ set held (get_or inputs i 0) g
    → (length new ≡ length first) × IsReleased last place (map known first) (map known new)
released_more last place first held new inputs i h g size so below noted low here is same put =
    let j = get_or inputs i 0 in
    let within : j < length first = All-get_or (λ k. k < length first) inputs i 0 low below in (
      ap length put ∙ length-set held j g ∙ size,
      released_then last place (map known first) (map known held) (map known new) so
          (subst (λ l. IsReleased last place (map known held) (map known l)) (sym put) (released_one last place j held h g (omega arith) is same (last_here last place j (omega arith) here))),
    )
