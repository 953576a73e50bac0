-- What `ascending` gives of lists with the same members, of filtered lists and of lists that are joined.
use Rattle.std.proofs.Common.{◌≡◌, List, [], ◌∷◌, Bool, true, false, cond, Ordering}
use Rattle.std.specs.Prelude.{◌↔◌, filter}
use Rattle.std.specs.List.{flat_map}
use Rattle.nemo_value.specs.Ascending.{ascending}
use Rattle.nemo_value.proofs.AscendingLists.{Before, Rises, before_all, before_in, in_ascending, one_rise, rises_ascending}
use Rattle.nemo_value.proofs.MemberLists.{filter_in, in_filter, passes, same_flat}
use Rattle.nemo_value.proofs.Members.{In, SameMembers}
use Rattle.nemo_value.proofs.SortedLists.{IsStrict}

pub ascending_same : {K : Type 0} (R : K → K → Ordering) (o : IsStrict R) (xs ys : List K) → ((z : K) → In z xs ↔ In z ys) → ascending R xs ≡ ascending R ys
ascending_same R o xs ys h = one_rise R o (ascending R xs) (ascending R ys) (rises_ascending R o xs) (rises_ascending R o ys)
    (record { members = λ z. (λ m. (in_ascending R o ys z).1 ((h z).0 ((in_ascending R o xs z).0 m)), λ m. (in_ascending R o xs z).1 ((h z).1 ((in_ascending R o ys z).0 m))) })

module _ {K : Type 0} (R : K → K → Ordering) (o : IsStrict R) where
  pub same_ascending : (xs : List K) → SameMembers (ascending R xs) xs
  same_ascending xs = record { members = in_ascending R o xs }

  -- the order of each part doesn't count
  pub ascending_flat : {A : Type 0} (f : A → List K) (xs : List A) → ascending R (flat_map f xs) ≡ ascending R (flat_map (λ x. ascending R (f x)) xs)
  ascending_flat f xs =
      let s = same_flat (λ x. ascending R (f x)) f xs (λ x. same_ascending (f x)) in
      ascending_same R o (flat_map f xs) (flat_map (λ x. ascending R (f x)) xs) (λ z. ((s.members z).1, (s.members z).0))

  before_filter : (p : K → Bool) (x : K) (l : List K) → Before R x l → Before R x (filter p l)
  before_filter p x l b = before_all R o x (filter p l) (λ z h. before_in R o x z l b (in_filter p z l h))

  rises_cond : (b : Bool) (x : K) (l : List K) → Before R x l → Rises R l → Rises R (cond b (x ∷ l) l)
  rises_cond true x l a h = (a, h)
  rises_cond false x l a h = h

  rises_filter : (p : K → Bool) (l : List K) → Rises R l → Rises R (filter p l)
  rises_filter p [] h = tt
  rises_filter p (x ∷ xs) h = rises_cond (p x) x (filter p xs) (before_filter p x xs h.0) (rises_filter p xs h.1)

  -- those that pass a test, in order
  pub ascending_filter : (p : K → Bool) (xs : List K) → ascending R (filter p xs) ≡ filter p (ascending R xs)
  ascending_filter p xs = one_rise R o (ascending R (filter p xs)) (filter p (ascending R xs)) (rises_ascending R o (filter p xs)) (rises_filter p (ascending R xs) (rises_ascending R o xs))
      (record {
        members = λ z. (
          λ h. let m = (in_ascending R o (filter p xs) z).0 h in filter_in p z (ascending R xs) ((in_ascending R o xs z).1 (in_filter p z xs m)) (passes p z xs m),
          λ h. (in_ascending R o (filter p xs) z).1 (filter_in p z xs ((in_ascending R o xs z).0 (in_filter p z (ascending R xs) h)) (passes p z (ascending R xs) h)),
        );
      })
