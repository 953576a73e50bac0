use Rattle.nemo_value.proofs.AscendingLists.{ascending_only, in_ascending, rises_ascending}
use Rattle.nemo_value.proofs.sorting.ascending_law.Goals as goal

pub returns : goal.returns
returns g c = record {
  same = λ R o xs. record { members = λ x. ((in_ascending R o xs x).1, (in_ascending R o xs x).0) };
  order = λ R o xs. rises_ascending R o xs;
  only = λ R o xs others s h. ascending_only R o xs others s h;
}
