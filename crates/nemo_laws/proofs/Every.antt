-- What holds of every item of a list.
use Rattle.std.proofs.Common.{arith, ◌≡◌, ◌∙◌, ap, refl, ℕ, ◌+◌, List, [], ◌∷◌, ◌++◌, map, Bool, true, false, cond, filter, None, Option}
use Rattle.std.specs.List.{cons_option, filter_map}
use Rattle.std.proofs.lemmas.Bool.{cond_both}
use Rattle.nemo_core.specs.Kept.{total}

abbrev pub Every : {X : Type 0} → (X → Type 0) → List X → Type 0
Every P [] = Unit {0}
Every P (x ∷ xs) = P x × Every P xs

pub every_append : {X : Type 0} (P : X → Type 0) (xs ys : List X) → Every P xs → Every P ys → Every P (xs ++ ys)
every_append P [] ys a b = b
every_append P (x ∷ xs) ys a b = (a.0, every_append P xs ys a.1 b)

pub every_all : {X : Type 0} (P : X → Type 0) (xs : List X) → ((x : X) → P x) → Every P xs
every_all P [] f = tt
every_all P (x ∷ xs) f = (f x, every_all P xs f)

pub every_map : {X Y : Type 0} (P : Y → Type 0) (f : X → Y) (xs : List X) → ((x : X) → P (f x)) → Every P (map f xs)
every_map P f [] h = tt
every_map P f (x ∷ xs) h = (h x, every_map P f xs h)

pub every_more : {X : Type 0} (P Q : X → Type 0) (xs : List X) → ((x : X) → P x → Q x) → Every P xs → Every Q xs
every_more P Q [] f h = tt
every_more P Q (x ∷ xs) f h = (f x h.0, every_more P Q xs f h.1)

pub every_both : {X : Type 0} (P Q R : X → Type 0) (xs : List X) → ((x : X) → P x → Q x → R x) → Every P xs → Every Q xs → Every R xs
every_both P Q R [] f h i = tt
every_both P Q R (x ∷ xs) f h i = (f x h.0 i.0, every_both P Q R xs f h.1 i.1)

-- what passes a test holds of what it filters
pub every_filter : {X : Type 0} (P : X → Type 0) (test : X → Bool) (xs : List X) → Every P xs → Every P (filter test xs)
every_filter P test [] h = tt
every_filter P test (x ∷ xs) h = let later = every_filter P test xs h.1 in cond_both (test x) (x ∷ filter test xs) (filter test xs) (Every P) (λ e. (h.0, later)) (λ e. later)

pub passed : {X : Type 0} (test : X → Bool) (xs : List X) → Every (λ x. test x ≡ true) (filter test xs)
passed test [] = tt
passed test (x ∷ xs) = let later = passed test xs in cond_both (test x) (x ∷ filter test xs) (filter test xs) (Every (λ y. test y ≡ true)) (λ e. (e, later)) (λ e. later)

pub none_passes : {X : Type 0} (test : X → Bool) (xs : List X) → ((x : X) → test x ≡ false) → filter test xs ≡ []
none_passes test [] f = refl
none_passes test (x ∷ xs) f = ap (λ b. cond b (x ∷ filter test xs) (filter test xs)) (f x) ∙ none_passes test xs f

---- what such items come to

pub no_total : {X : Type 0} (f : X → ℕ) (xs : List X) → Every (λ x. f x ≡ 0) xs → total f xs ≡ 0
no_total f [] h = refl
no_total f (x ∷ xs) h = let here : f x ≡ 0 = h.0 in let later : total f xs ≡ 0 = no_total f xs h.1 in omega (arith, here, later)

pub total_append : {X : Type 0} (f : X → ℕ) (xs ys : List X) → total f (xs ++ ys) ≡ total f xs + total f ys
total_append f [] ys = omega arith
total_append f (x ∷ xs) ys = let later : total f (xs ++ ys) ≡ total f xs + total f ys = total_append f xs ys in omega (arith, later)

pub no_answer : {X Y : Type 0} (f : X → Option Y) (xs : List X) → Every (λ x. f x ≡ None) xs → filter_map f xs ≡ []
no_answer f [] h = refl
no_answer f (x ∷ xs) h = ap (λ o. cons_option o (filter_map f xs)) h.0 ∙ no_answer f xs h.1
