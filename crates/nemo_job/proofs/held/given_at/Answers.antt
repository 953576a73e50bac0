use Rattle.std.proofs.Common.{◌≡◌, ◌∙◌, ap, map}
use Rattle.std.specs.Prelude.{option_map}
use Rattle.nemo_transform.specs.Brought.{port, all_faults, blocking}
use Rattle.nemo_transform.specs.Gives.{is_filled}
use Rattle.nemo_transform.specs.Ports.{kinds_of}
use Rattle.nemo_transform.specs.FirstFault.{first_fault, arisen_at}
use Rattle.nemo_job.specs.HeldRows.{rows_held}
use Rattle.nemo_job.specs.Held.{known, node_of}
use Rattle.nemo_job.proofs.Feeding.{fed_through}
use Rattle.nemo_job.proofs.Giving.{given_free}
use Rattle.nemo_job.proofs.held.given_at.Goals as goal

pub returns : goal.returns
returns c = λ vals feeds.
    let n = c.args.node.now in
    let inputs = c.as_slice-inputs.result.now in
    let is : inputs ≡ n.inputs = c.as_slice-inputs.ensures in
    let fed = fed_through vals (map known c.args.held.now) inputs n.inputs is feeds in
    given_free vals c.args.place (node_of n) (rows_held c.in_ok-rows.rows) (option_map arisen_at c.earlier.result) (option_map arisen_at c.in_ok-passed.passed) (option_map arisen_at c.in_ok-rows.own)
    (c.if-is_blocked.ensures vals fed ∙ ap (λ l. is_filled (blocking (kinds_of n.transform.now) (map (port vals) l))) is)
    (c.in_ok-rows.ensures.rows vals feeds)
    (c.in_ok-passed.ensures vals fed ∙ ap (λ l. first_fault (all_faults (map (port vals) l))) is)
    (c.in_ok-rows.ensures.first vals feeds)
    c.earlier.ensures
