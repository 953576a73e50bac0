-- Lists with one item more, and lists made entry by entry of which each front keeps something.
use Rattle.std.proofs.Common.{arith, ◌≡◌, ◌∙◌, ap, sym, subst, refl, ℕ, zero, suc, ◌+◌, ◌<◌, ◌≤◌, List, [], ◌∷◌, ◌++◌, append-nil, append_assoc, length, length-append, take, slice_get, Some, nat_le, cond, Bool, true, false, inl, inr}
use Rattle.std.specs.Prelude.{◌⊎◌}
use Rattle.std.proofs.lemmas.Bool.{leb-true, leb-false}
use Rattle.std.proofs.lemmas.List.{take-append-le, take_all}
use Rattle.nemo_ir.specs.Along.{along}
use Rattle.nemo_ir.proofs.Places.{from_none}
use Rattle.nemo_plan.specs.Stages.{count_stages}

---- one item more

pub push_old : {X : Type 0} (xs : List X) (y : X) (i : ℕ) (x : X) → slice_get xs i ≡ Some x → slice_get (xs ++ y ∷ []) i ≡ Some x
push_old [] y i x e = cc
push_old (z ∷ zs) y zero x e = e
push_old (z ∷ zs) y (suc i) x e = push_old zs y i x e

pub push_new : {X : Type 0} (xs : List X) (y : X) → slice_get (xs ++ y ∷ []) (length xs) ≡ Some y
push_new [] y = refl
push_new (z ∷ zs) y = push_new zs y

pub push_cases : {X : Type 0} (xs : List X) (y : X) (i : ℕ) (x : X) → slice_get (xs ++ y ∷ []) i ≡ Some x → (slice_get xs i ≡ Some x) ⊎ ((i ≡ length xs) × (y ≡ x))
push_cases [] y zero x e = inr (refl, cc)
push_cases [] y (suc i) x e = cc
push_cases (z ∷ zs) y zero x e = inl e
push_cases (z ∷ zs) y (suc i) x e = elim (push_cases zs y i x e) [ inl old ↦ inl old | inr new ↦ inr (ap suc new.0, new.1) ]

---- each front of a list made entry by entry

record Front {A : Type 0} (done all : List A) : Type 0 where
  rest : List A
  is : all ≡ done ++ rest

module _ {V A : Type 0} (step : List A → V → A) (Keeps : List A → Type 0) where
  front : (done : List A) (vs : List V) → Front done (along step done vs)
  front done [] = record { rest = []; is = sym (append-nil done) }
  front done (v ∷ vs) = let k = front (done ++ step done v ∷ []) vs in record { rest = step done v ∷ k.rest; is = k.is ∙ append_assoc done (step done v ∷ []) k.rest }

  front_is : (done : List A) (vs : List V) → take (length done + 0) (along step done vs) ≡ done
  front_is done vs =
      let f = front done vs in
      let n : length done + 0 ≡ length done = omega arith in
      ap (λ m. take m (along step done vs)) n ∙ ap (take (length done)) f.is ∙ take-append-le (length done) done f.rest (omega arith) ∙ take_all (length done) done (omega arith)

  fronts_from : (all : List V) → ((done : List A) (v : V) → slice_get all (length done) ≡ Some v → Keeps done → Keeps (done ++ step done v ∷ []))
      → (done : List A) (vs : List V) → ((i : ℕ) (v : V) → slice_get vs i ≡ Some v → slice_get all (length done + i) ≡ Some v) → Keeps done → (n : ℕ) → Keeps (take (length done + n) (along step done vs))
  fronts_from all next done vs at keeps zero = subst Keeps (sym (front_is done vs)) keeps
  fronts_from all next done [] at keeps (suc n) = subst Keeps (sym (take_all (length done + suc n) done (omega arith))) keeps
  fronts_from all next done (v ∷ vs) at keeps (suc n) =
      let more : List A = done ++ step done v ∷ [] in
      let size : length more ≡ suc (length done) = length-append done (step done v ∷ []) ∙ (let e : length done + 1 ≡ suc (length done) = omega arith in e) in
      let up : length more + n ≡ length done + suc n = omega arith in
      let here : length done + 0 ≡ length done = omega arith in
      subst (λ m. Keeps (take m (along step more vs))) up
      (fronts_from all next more vs
      (λ i w e. let k : length done + suc i ≡ length more + i = omega arith in ap (slice_get all) (sym k) ∙ at (suc i) w e)
      (next done v (ap (slice_get all) (sym here) ∙ at 0 v refl) keeps) n)

  -- what each step keeps holds of each front
  pub fronts : (all : List V) → ((done : List A) (v : V) → slice_get all (length done) ≡ Some v → Keeps done → Keeps (done ++ step done v ∷ [])) → Keeps [] → (n : ℕ) → Keeps (take n (along step [] all))
  fronts all next none n = subst (λ m. Keeps (take m (along step [] all))) (from_none n) (fronts_from all next [] all (λ i v e. ap (slice_get all) (from_none i) ∙ e) none n)

---- how many stages there are

pub count_above : (stages : List ℕ) (v s : ℕ) → slice_get stages v ≡ Some s → s < count_stages stages
count_above [] v s e = cc
count_above (t ∷ ts) zero s e = let same : t ≡ s = cc in go (nat_le (suc t) (count_stages ts)) refl (omega arith)
  where
    go : (b : Bool) → nat_le (suc t) (count_stages ts) ≡ b → t ≡ s → s < cond b (count_stages ts) (suc t)
    go true h same = let less : suc t ≤ count_stages ts = leb-true (suc t) (count_stages ts) h in omega arith
    go false h same = omega arith
count_above (t ∷ ts) (suc v) s e = go (nat_le (suc t) (count_stages ts)) refl (count_above ts v s e)
  where
    go : (b : Bool) → nat_le (suc t) (count_stages ts) ≡ b → s < count_stages ts → s < cond b (count_stages ts) (suc t)
    go true h l = l
    go false h l = let less : count_stages ts < suc t = leb-false (suc t) (count_stages ts) h in omega arith

pub count_least : (stages : List ℕ) (n : ℕ) → ((v s : ℕ) → slice_get stages v ≡ Some s → s < n) → count_stages stages ≤ n
count_least [] n f = omega arith
count_least (t ∷ ts) n f = go (nat_le (suc t) (count_stages ts)) (count_least ts n (λ v s e. f (suc v) s e)) (f 0 t refl)
  where
    go : (b : Bool) → count_stages ts ≤ n → t < n → cond b (count_stages ts) (suc t) ≤ n
    go true l m = l
    go false l m = m

-- one vertex more joins a stage, or begins the next
pub count_joined : (stages : List ℕ) (s : ℕ) → s < count_stages stages → count_stages (stages ++ s ∷ []) ≡ count_stages stages
count_joined stages s l =
    let up : count_stages (stages ++ s ∷ []) ≤ count_stages stages =
    count_least (stages ++ s ∷ []) (count_stages stages) (λ v t e. elim (push_cases stages s v t e) [ inl old ↦ count_above stages v t old | inr new ↦ subst (λ k. k < count_stages stages) new.1 l ]) in
    let down : count_stages stages ≤ count_stages (stages ++ s ∷ []) = count_least stages (count_stages (stages ++ s ∷ [])) (λ v t e. count_above (stages ++ s ∷ []) v t (push_old stages s v t e)) in
    omega arith

pub count_begun : (stages : List ℕ) → count_stages (stages ++ count_stages stages ∷ []) ≡ suc (count_stages stages)
count_begun stages =
    let c : ℕ = count_stages stages in
    let up : count_stages (stages ++ c ∷ []) ≤ suc c =
    count_least (stages ++ c ∷ []) (suc c)
    (λ v t e. elim (push_cases stages c v t e) [ inl old ↦ (let l : t < count_stages stages = count_above stages v t old in omega arith) | inr new ↦ (let same : c ≡ t = new.1 in omega arith) ]) in
    let down : c < count_stages (stages ++ c ∷ []) = count_above (stages ++ c ∷ []) (length stages) c (push_new stages c) in
    omega arith
