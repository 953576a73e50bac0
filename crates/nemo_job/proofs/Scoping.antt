-- Names among the faces of a list.
use Rattle.std.proofs.Common.{arith, ◌≡◌, ◌∙◌, refl, ap, subst, ℕ, suc, ◌+◌, ◌≤◌, List, [], ◌∷◌, ◌++◌, Bool, true, false, ◌&&◌, ◌||◌, not, cond, length, Option, Some}
use Rattle.std.specs.List.{list_any}
use Rattle.std.specs.Option.{option_or}
use Rattle.nemo_value.specs.Texts.{same_text}
use Rattle.nemo_job.specs.Refusals.{face_named, has_name, has_port}
use Rattle.nemo_job.specs.Sites.{Face}
use Rattle.nemo_job.specs.Walks.{first_named, gives, is_before, is_from, named_at}
use Rattle.nemo_job.specs.declared.scope.Named.{Named}

---- the first of a name

-- the first of a name among some and then others
pub first_join : (q : List ℕ) (k : ℕ) (fs gs : List Face) → first_named q k (fs ++ gs) ≡ option_or (first_named q k fs) (first_named q (k + length fs) gs)
first_join q k [] gs = let same : k ≡ k + 0 = omega arith in ap (λ n. first_named q n gs) same
first_join q k (f ∷ fs) gs =
    let next : k + 1 + length fs ≡ k + suc (length fs) = omega arith in
    ap (cond (same_text f.name q) (Some (named_at k f))) (first_join q (k + 1) fs gs ∙ ap (λ n. option_or (first_named q (k + 1) fs) (first_named q n gs)) next)
    ∙ go (same_text f.name q)
  where
    go : (b : Bool) → cond b (Some (named_at k f)) (option_or (first_named q (k + 1) fs) (first_named q (k + suc (length fs)) gs))
        ≡ option_or (cond b (Some (named_at k f)) (first_named q (k + 1) fs)) (first_named q (k + suc (length fs)) gs)
    go true = refl
    go false = refl

---- what a place tells

-- the first of a name gives at a port what the specification asks
pub port_is : (q : List ℕ) (port k : ℕ) (fs : List Face) → gives port (first_named q k fs) ≡ has_port port (face_named q fs)
port_is q port k [] = refl
port_is q port k (f ∷ fs) = go (same_text f.name q) (port_is q port (k + 1) fs)
  where
    go : (b : Bool) → gives port (first_named q (k + 1) fs) ≡ has_port port (face_named q fs)
        → gives port (cond b (Some (named_at k f)) (first_named q (k + 1) fs)) ≡ has_port port (cond b (Some f) (face_named q fs))
    go true h = refl
    go false h = h

-- those from a place on: the place of each, and whether one is there
late : (q : List ℕ) (i k : ℕ) (fs : List Face) → i ≤ k → (is_before i (first_named q k fs) ≡ false) × (is_from i (first_named q k fs) ≡ list_any (has_name q) fs)
late q i k [] l = (refl, refl)
late q i k (f ∷ fs) l = go (same_text f.name q) (late q i (k + 1) fs (omega arith))
  where
    Late : Option Named → Bool → Type 0
    Late o b = (is_before i o ≡ false) × (is_from i o ≡ b)

    go : (b : Bool) → Late (first_named q (k + 1) fs) (list_any (has_name q) fs)
        → Late (cond b (Some (named_at k f)) (first_named q (k + 1) fs)) (b || list_any (has_name q) fs)
    go true h = (grind arith, grind arith)
    go false h = h

placed : (q : List ℕ) (k : ℕ) (bs fs : List Face)
    → (is_before (k + length bs) (first_named q k (bs ++ fs)) ≡ list_any (has_name q) bs)
    × (is_from (k + length bs) (first_named q k (bs ++ fs)) ≡ (not (list_any (has_name q) bs) && list_any (has_name q) fs))
placed q k [] fs = late q (k + 0) k fs (omega arith)
placed q k (b ∷ bs) fs =
    let next : k + 1 + length bs ≡ k + suc (length bs) = omega arith in
    go (same_text b.name q) (subst (λ n. Placed n (first_named q (k + 1) (bs ++ fs)) (list_any (has_name q) bs)) next (placed q (k + 1) bs fs))
  where
    Placed : ℕ → Option Named → Bool → Type 0
    Placed n o some = (is_before n o ≡ some) × (is_from n o ≡ (not some && list_any (has_name q) fs))

    go : (c : Bool) → Placed (k + suc (length bs)) (first_named q (k + 1) (bs ++ fs)) (list_any (has_name q) bs)
        → Placed (k + suc (length bs)) (cond c (Some (named_at k b)) (first_named q (k + 1) (bs ++ fs))) (c || list_any (has_name q) bs)
    go true h = (grind arith, grind arith)
    go false h = h

-- one of the name stands before a place, or none before it and one from it on
pub before_is : (q : List ℕ) (bs fs : List Face) (n : ℕ) → length bs ≡ n → is_before n (first_named q 0 (bs ++ fs)) ≡ list_any (has_name q) bs
before_is q bs fs n e =
    let place : n ≡ 0 + length bs = omega arith in
    ap (λ m. is_before m (first_named q 0 (bs ++ fs))) place ∙ (placed q 0 bs fs).0

pub from_is : (q : List ℕ) (bs fs : List Face) (n : ℕ) → length bs ≡ n → is_from n (first_named q 0 (bs ++ fs)) ≡ (not (list_any (has_name q) bs) && list_any (has_name q) fs)
from_is q bs fs n e =
    let place : n ≡ 0 + length bs = omega arith in
    ap (λ m. is_from m (first_named q 0 (bs ++ fs))) place ∙ (placed q 0 bs fs).1
