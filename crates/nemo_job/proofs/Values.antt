-- What each vertex gives, on what all of them give.
use Rattle.std.proofs.Common.{◌≡◌, ◌∙◌, refl, sym, ap, subst, ℕ, zero, suc, ◌+◌, ◌<◌, List, [], ◌∷◌, ◌++◌, length, map, Some, arith, length-append, add-zero}
use Rattle.std.specs.Prelude.{slice_get}
use Rattle.std.proofs.lemmas.List.{get_or_append_left}
use Rattle.std.proofs.Math.Seq.{get_or-append_seam}
use Rattle.nemo_transform.specs.Brought.{port, at, nothing}
use Rattle.nemo_job.specs.ByPlace.{ByPlace, Placed, value_after, values, values_from}
use Rattle.nemo_job.specs.Held.{IsLower, value_at}

pub kept : (done : List ByPlace) (ps : List Placed) (i : ℕ) → i < length done → port (values_from done ps) i ≡ port done i
kept done [] i low = refl
kept done (p ∷ ps) i low =
    let v = value_after done p in
    kept (done ++ v ∷ []) ps i (let more = length-append done (v ∷ []) in omega arith) ∙ get_or_append_left done (v ∷ []) nothing i low

pub same_on : {X Y : Type 0} (f g : X → Y) (xs : List X) → ((k : ℕ) (x : X) → slice_get xs k ≡ Some x → f x ≡ g x) → map f xs ≡ map g xs
same_on f g [] h = refl
same_on f g (x ∷ xs) h = λ i. h 0 x refl i ∷ same_on f g xs (λ k y e. h (suc k) y e) i

later : (done : List ByPlace) (ps : List Placed) (k : ℕ) (p : Placed) → slice_get ps k ≡ Some p → ((n j : ℕ) → slice_get p.inputs n ≡ Some j → j < length done + k)
    → port (values_from done ps) (length done + k) ≡ value_at (values_from done ps) (length done + k) p
later done [] k p e low = cc
later done (q ∷ ps) zero p e low =
    let all = values_from done (q ∷ ps) in
    let v = value_after done q in
    let n = length done in
    let z : n + 0 ≡ n = omega arith in
    let is : q ≡ p = cc in
    let here : port all n ≡ v = kept (done ++ v ∷ []) ps n (let more = length-append done (v ∷ []) in omega arith) ∙ get_or-append_seam done v [] nothing in
    let inputs : map (port done) p.inputs ≡ map (port all) p.inputs =
    same_on (port done) (port all) p.inputs (λ k j m. sym (kept done (q ∷ ps) j (let low_j = low k j m in omega arith))) in
    ap (port all) z ∙ here ∙ ap (value_after done) is
    ∙ (λ i. at n p.transform (inputs i)) ∙ ap (λ m. value_at all m p) (sym z)
later done (q ∷ ps) (suc k) p e low =
    let v = value_after done q in
    let more : length (done ++ v ∷ []) + k ≡ length done + suc k = (let l = length-append done (v ∷ []) in omega arith) in
    subst (λ n. port (values_from done (q ∷ ps)) n ≡ value_at (values_from done (q ∷ ps)) n p) more
    (later (done ++ v ∷ []) ps k p e (λ n j m. subst (λ l. j < l) (sym more) (low n j m)))

-- a vertex that takes vertices before it gives its value on all
pub value_is : (ps : List Placed) (k : ℕ) (p : Placed) → IsLower ps → slice_get ps k ≡ Some p → port (values ps) k ≡ value_at (values ps) k p
value_is ps k p lower e =
    let z : 0 + k ≡ k = omega arith in
    subst (λ n. port (values ps) n ≡ value_at (values ps) n p) z (later [] ps k p e (λ n j m. subst (λ l. j < l) (sym z) (lower k p n j e m)))

pub length_values : (bs : List ByPlace) (ps : List Placed) → length (values_from bs ps) ≡ length bs + length ps
length_values bs [] = sym (add-zero (length bs))
length_values bs (p ∷ ps) =
    let more = length-append bs (value_after bs p ∷ []) in
    let rest = length_values (bs ++ value_after bs p ∷ []) ps in
    omega arith
