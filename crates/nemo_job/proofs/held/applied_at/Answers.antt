use Rattle.std.proofs.Common.{◌≡◌, ◌∙◌, sym, ap, List, map}
use Rattle.std.specs.Prelude.{slice_get, option_map}
use Rattle.nemo_transform.specs.Brought.{port, all_rows, arisen}
use Rattle.nemo_transform.specs.Gives.{rows_in, own_faults}
use Rattle.nemo_transform.proofs.FirstFaults.{first_of_own}
use Rattle.nemo_job.specs.ByPlace.{ByPlace}
use Rattle.nemo_job.specs.Held.{Feeds, known, node_of, answers_at, answers_on}
use Rattle.nemo_job.proofs.Applying.{no_first, only_rows, source_answers, union_answers, answers_once}
use Rattle.nemo_job.proofs.Feeding.{fed_through}
use Rattle.nemo_job.proofs.held.applied_at.Goals as goal

pub returns-in-Source-clause-rows : goal.returns-in-Source-clause-rows
returns-in-Source-clause-rows c = λ vals feeds.
    let n = c.args.node.now in
    c.as_slice.ensures ∙ sym (only_rows c.in-Source.rows (answers_at vals (node_of n)) (source_answers vals n.inputs n.transform.now c.in-Source.rows c.in-Source.is))

pub returns-in-Source-clause-first : goal.returns-in-Source-clause-first
returns-in-Source-clause-first c = λ vals feeds.
    let n = c.args.node.now in
    sym (no_first c.args.place c.in-Source.rows (answers_at vals (node_of n)) (source_answers vals n.inputs n.transform.now c.in-Source.rows c.in-Source.is))

pub returns-in_ok-of-in-Union-clause-rows : goal.returns-in_ok-of-in-Union-clause-rows
returns-in_ok-of-in-Union-clause-rows c = λ vals feeds.
    let n = c.args.node.now in
    let is : c.as_slice-inputs.result.now ≡ n.inputs = c.as_slice-inputs.ensures in
    let fed = fed_through vals (map known c.args.held.now) c.as_slice-inputs.result.now n.inputs is feeds in
    c.in_ok-of-in-Union.ensures ∙ c.as_slice-in-Union.ensures.value ∙ c.in_ok-rows-in-Union.ensures vals fed
    ∙ ap (λ l. all_rows (map (port vals) l)) is
    ∙ sym (only_rows (all_rows (map (port vals) n.inputs)) (answers_at vals (node_of n)) (union_answers vals n.inputs n.transform.now c.in-Union.ports c.in-Union.is))

pub returns-in_ok-of-in-Union-clause-first : goal.returns-in_ok-of-in-Union-clause-first
returns-in_ok-of-in-Union-clause-first c = λ vals feeds.
    let n = c.args.node.now in
    sym (no_first c.args.place (all_rows (map (port vals) n.inputs)) (answers_at vals (node_of n)) (union_answers vals n.inputs n.transform.now c.in-Union.ports c.in-Union.is))

pub returns-in_ok-rows-in_default : goal.returns-in_ok-rows-in_default
returns-in_ok-rows-in_default c =
    let n = c.args.node.now in
    let inputs = c.as_slice-inputs.result.now in
    let once : (vals : List ByPlace) → answers_on vals inputs n.transform.now ≡ answers_at vals (node_of n) =
    λ vals. answers_once vals inputs n.inputs n.transform.now c.in_default.not-Union c.as_slice-inputs.ensures in
    let fed : (vals : List ByPlace) → Feeds vals (map known c.args.held.now) n.inputs → Feeds vals (map known c.args.held.now) inputs =
    λ vals feeds. fed_through vals (map known c.args.held.now) inputs n.inputs c.as_slice-inputs.ensures feeds in
    record {
      rows = λ vals feeds. c.in_ok-rows-in_default.ensures.rows vals (fed vals feeds) ∙ ap rows_in (once vals);
      first = λ vals feeds.
          c.first_own.ensures
          ∙ ap (λ faults. option_map (arisen c.args.place) (slice_get faults 0)) (c.in_ok-rows-in_default.ensures.faults vals (fed vals feeds) ∙ ap own_faults (once vals))
          ∙ sym (first_of_own c.args.place (answers_at vals (node_of n)));
    }
