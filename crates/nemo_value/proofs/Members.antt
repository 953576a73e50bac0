-- The members of permuted lists.
pub use Rattle.nemo_value.specs.Members.{In, SameMembers}
use Rattle.std.proofs.Common.{List, inl, inr}
use Rattle.nemo_value.proofs.Perm.{Perm, none, keep, swap, then}

module _ {A : Type 0} where
  pub in_perm : (x : A) {xs ys : List A} → Perm xs ys → In x xs → In x ys
  in_perm x none h = h
  in_perm x (keep y p) (inl e) = inl e
  in_perm x (keep y p) (inr h) = inr (in_perm x p h)
  in_perm x (swap y z l) (inl e) = inr (inl e)
  in_perm x (swap y z l) (inr (inl e)) = inl e
  in_perm x (swap y z l) (inr (inr h)) = inr (inr h)
  in_perm x (then p q) h = in_perm x q (in_perm x p h)

  pub members_back : {xs ys : List A} → SameMembers xs ys → SameMembers ys xs
  members_back a = record { members = λ z. ((a.members z).1, (a.members z).0) }
