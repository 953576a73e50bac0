-- The whole run on one thread: its start, its end, and its sinks.
use Rattle.std.proofs.Common.{arith, ◌≡◌, ◌∙◌, ap, sym, suc, ◌-◌, ◌≤◌, List, [], ◌∷◌, length, map, IfOk, OnOk, Some, None, Ok, Err, Result}
use Rattle.std.specs.Prelude.{IsSome, is_some, option_and_then, option_map}
use Rattle.std.specs.List.{flat_map}
use Rattle.nemo_base.specs.Settings.{SettingsForm}
use Rattle.nemo_value.specs.Order.{record_cmp}
use Rattle.nemo_value.specs.Sorting.{sorted}
use Rattle.nemo_value.specs.declared.memory.NoMemory.{NoMemory}
use Rattle.nemo_value.specs.declared.record.SinkRows.{SinkRows}
use Rattle.nemo_value.proofs.JoinedLists.{flat_same}
use Rattle.nemo_value.proofs.Perm.{from_std}
use Rattle.nemo_value.proofs.RecordOrder.{record_strict}
use Rattle.nemo_value.proofs.SortedLists.{sorted_alike}
use Rattle.nemo_transform.specs.Gives.{Row}
use Rattle.nemo_ir.specs.Along.{below}
use Rattle.nemo_ir.specs.Flat.{sink_name, transform_of}
use Rattle.nemo_ir.proofs.Places.{got, same_item}
use Rattle.nemo_value.specs.SinkOrder.{in_order}
use Rattle.nemo_ir.specs.Meaning.{flat_rows}
use Rattle.nemo_core.specs.Run.{refusal_in}
use Rattle.nemo_core.specs.State.{Machine, start_machine}
use Rattle.nemo_core.specs.declared.event.Event.{Event}
use Rattle.nemo_core.specs.declared.event.Event.TheVariants.{Finish}
use Rattle.nemo_plan.specs.Form.{PlanForm, graph}
use Rattle.nemo_plan.specs.Line.{line_graph}
use Rattle.nemo_laws.specs.Written.{written}
use Rattle.nemo_replay.specs.EndSink.{end_name, one_sink}
use Rattle.nemo_replay.specs.StageRun.{IsOneStage, task_rows, tasks_in}
use Rattle.nemo_replay.specs.StageStates.{ready_core}
use Rattle.nemo_replay.proofs.Commits.{finish_allowed}
use Rattle.nemo_replay.proofs.Computed.{task_rows_are}
use Rattle.nemo_replay.proofs.OneStage.{count, rows_end, stage_plan}
use Rattle.nemo_replay.proofs.SinkRows.{end_of, one_reached}
use Rattle.nemo_replay.proofs.SoloRuns.{RunsWell}
use Rattle.nemo_replay.proofs.States.{start_ready}
use Rattle.nemo_replay.proofs.Tasks.{line_part}
use Rattle.nemo_replay.proofs.Turns.{core_is}

pub start_core : (p : PlanForm) (k : SettingsForm) (core : Machine) → IsOneStage p → core ≡ start_machine (graph p) k → core ≡ ready_core p k 0
start_core p k core solo is =
    is ∙ ap (λ h. start_machine h k) (stage_plan p solo).graph_is
    ∙ ap (λ s. record { graph = line_graph (count p) (tasks_in p); settings = k; state = s; taken = 0 }) (start_ready (count p) (tasks_in p) k (stage_plan p solo).some)
    ∙ sym (core_is p k 0 solo)

pub may_finish : (p : PlanForm) (k : SettingsForm) (core : Machine) → IsOneStage p → core ≡ ready_core p k (tasks_in p) → refusal_in core Finish ≡ None
may_finish p k core solo is = ap (λ c. refusal_in c Finish) (is ∙ core_is p k (tasks_in p) solo) ∙ finish_allowed (count p) (tasks_in p) k

---- the sink

end_is : (p : PlanForm) (o : IsOneStage p) → end_name p.flat ≡ Some (end_of p o).name
end_is p o =
    let size : length p.flat.vertices ≡ count p = (stage_plan p o).flat_count in
    let some : 1 ≤ count p = (stage_plan p o).some in
    let v = length p.flat.vertices - 1 in
    let x = got p.flat.vertices v (omega arith) in
    ap (λ o. sink_name (option_and_then (transform_of p.flat) o)) x.1 ∙ ap sink_name ((end_of p o).last v x.0 x.1 (omega arith))

pub has_end : (p : PlanForm) (o : IsOneStage p) → IsSome (end_name p.flat)
has_end p o = ap is_some (end_is p o)

-- the rows of all tasks, in order, are what the sink gets
sinks_are : (p : PlanForm) (rows : List Row) (sinks : List SinkRows) → IsOneStage p
    → rows ≡ flat_map (λ i. task_rows p.flat (tasks_in p) i p.flat.vertices []) (below (tasks_in p)) → Some sinks ≡ one_sink p.flat rows → sinks ≡ flat_rows p.flat
sinks_are p rows sinks o all one =
    let some : 1 ≤ count p = (stage_plan p o).some in
    let last = count p - 1 in
    let name = (end_of p o).name in
    let sort : List Row → List SinkRows = λ rs. record { name = name; rows = sorted record_cmp rs } ∷ [] in
    let at_end : suc last ≡ count p = omega arith in
    same_item sinks (sort rows) (one ∙ ap (option_map (λ n. record { name = n; rows = sorted record_cmp rows } ∷ [])) (end_is p o))
    ∙ ap sort (all ∙ flat_same (λ i. task_rows p.flat (tasks_in p) i p.flat.vertices []) (λ i. (line_part p (tasks_in p) i last).rows) (below (tasks_in p)) (λ i. rows_end p o (tasks_in p) i last at_end))
    ∙ ap (λ rs. record { name = name; rows = rs } ∷ []) (sorted_alike record_cmp record_strict (from_std _ _ (task_rows_are p o last (omega arith))))
    ∙ sym (ap (λ rs. in_order (map (λ r. record { name = r.name; rows = r.brought.rows }) rs)) (one_reached p o))

---- the result of a call

pub ended_sinks : (p : PlanForm) (rows : List Row) (r : Result (List SinkRows) NoMemory) → IsOneStage p
    → rows ≡ flat_map (λ i. task_rows p.flat (tasks_in p) i p.flat.vertices []) (below (tasks_in p)) → IfOk r (λ sinks. Some sinks ≡ one_sink p.flat rows) → IfOk r (λ sinks. sinks ≡ flat_rows p.flat)
ended_sinks p rows (Ok sinks) o all one = sinks_are p rows sinks o all one
ended_sinks p rows (Err e) o all one = tt

pub ended_written : (p : PlanForm) (k : SettingsForm) (log : List Event) (r : Result (List SinkRows) NoMemory) → RunsWell p k log
    → IfOk r (λ sinks. sinks ≡ flat_rows p.flat) → IfOk r (λ sinks. sinks ≡ written p k log)
ended_written p k log (Ok sinks) well is = is ∙ sym well.sinks
ended_written p k log (Err e) well is = tt

-- what holds anyhow holds where a call succeeds
pub on_ok : {X E : Type 0} (r : Result X E) {P : Type 0} → P → OnOk r P
on_ok (Ok x) h = h
on_ok (Err e) h = tt
