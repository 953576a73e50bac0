use Rattle.std.proofs.Common.{arith, ◌≡◌, unwrap_or}
use Rattle.indexmap.specs.Entry.{map_with_value}
use Rattle.nemo_job.specs.ByName.{named_in}
use Rattle.nemo_job.proofs.PutFirst.{put_first}
use Rattle.nemo_job.proofs.scope.add.Goals as goal

pub returns : goal.returns
returns c = λ q.
    let old = c.args.scope.now in
    let text = c.as_str.result.now in
    let had : c.or_insert.result.now ≡ unwrap_or (named_in old text) c.args.first = grind arith in
    let put = put_first old (map_with_value c.in_ok-scope.field-0 c.or_insert.result.now) text c.args.first c.or_insert.result.now (c.in_ok-scope.ensures.update.0 c.or_insert.result.now) had q in
    grind (arith, put)
