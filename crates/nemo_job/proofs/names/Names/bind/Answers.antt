use Rattle.std.proofs.Common.{arith, ◌≡◌, unwrap_or}
use Rattle.indexmap.specs.Entry.{map_with_value}
use Rattle.nemo_job.specs.ByName.{named_in}
use Rattle.nemo_job.proofs.PutFirst.{put_first}
use Rattle.nemo_job.proofs.ScopeNames.{has_more}
use Rattle.nemo_job.proofs.names.Names.bind.Goals as goal

pub returns : goal.returns
returns c = λ bs has q.
    let old = c.args.self.now.ports in
    let name = c.args.name.now in
    let had : c.or_insert.result.now ≡ unwrap_or (named_in old name) c.args.ports = grind arith in
    let put = put_first old (map_with_value c.in_ok-self.field-0 c.or_insert.result.now) name c.args.ports c.or_insert.result.now (c.in_ok-self.ensures.update.0 c.or_insert.result.now) had q in
    has_more q bs name c.args.ports c.args.self.now _ has (grind (arith, put))
