use Rattle.std.proofs.Common.{◌∙◌, map, sym}
use Rattle.nemo_job.specs.ByName.{named_in}
use Rattle.nemo_job.specs.Sites.{faces, standing}
use Rattle.nemo_job.proofs.FirstNames.{first_end, first_found, first_ports}
use Rattle.nemo_job.proofs.site.names_differ.Goals as goal

pub returns-then-is_taken : goal.returns-then-is_taken
returns-then-is_taken c = λ body has.
    let find = named_in c.args.scope.now in
    let names = c.args.carry.now in
    first_found find c.loop-position.position names c.index-carry-position.result c.loop-position-test.true c.index-carry-position.is (sym c.is_taken.ensures.taken ∙ c.if-is_taken.true)
    ∙ c.loop-position.invariant ∙ first_ports find names (faces (map standing body)) has

pub returns : goal.returns
returns c = λ body has.
    let find = named_in c.args.scope.now in
    let names = c.args.carry.now in
    sym (first_end find c.loop-position.position names c.loop-position-test.false) ∙ c.loop-position.invariant ∙ first_ports find names (faces (map standing body)) has
