-- Answers that are the same in their rows, up to order or as lists, and in their faults as a set.
use Rattle.std.proofs.Common.{◌≡◌, ap, List}
use Rattle.std.specs.List.{filter_map}
use Rattle.nemo_value.proofs.MemberLists.{same_is, same_perm, same_then}
use Rattle.nemo_value.proofs.Members.{SameMembers, members_back}
use Rattle.nemo_value.proofs.Perm.{Perm, back, then}
use Rattle.nemo_value.proofs.Permuted.{chosen, is}
use Rattle.nemo_transform.specs.Gives.{Answer, fault_in, row_in, rows_in}

pub record SameGiven (given whole : List Answer) : Type 0 where
  pub rows : Perm (rows_in given) (rows_in whole)
  pub faults : SameMembers (filter_map fault_in given) (filter_map fault_in whole)

pub record SameRows (given whole : List Answer) : Type 0 where
  pub rows : rows_in given ≡ rows_in whole
  pub faults : SameMembers (filter_map fault_in given) (filter_map fault_in whole)

pub given_perm : {given whole : List Answer} → Perm given whole → SameGiven given whole
given_perm p = record { rows = chosen row_in p; faults = same_perm (chosen fault_in p) }

pub given_rows : {given whole : List Answer} → SameRows given whole → SameGiven given whole
given_rows h = record { rows = is h.rows; faults = h.faults }

pub given_back : {given whole : List Answer} → SameGiven given whole → SameGiven whole given
given_back g = record { rows = back g.rows; faults = members_back g.faults }

pub given_then : {given other whole : List Answer} → SameGiven given other → SameGiven other whole → SameGiven given whole
given_then g h = record { rows = then g.rows h.rows; faults = same_then g.faults h.faults }

pub rows_same : {given whole : List Answer} → given ≡ whole → SameRows given whole
rows_same e = record { rows = ap rows_in e; faults = same_is (ap (filter_map fault_in) e) }
