-- The run of a plan of one stage on one thread is done, and gives the sinks what the flat job gives them.
use Rattle.std.proofs.Common.{arith, ◌≡◌, ◌∙◌, ap, sym, subst, refl, ℕ, zero, suc, ◌+◌, ◌-◌, ◌<◌, List, [], ◌∷◌, ◌++◌, map}
use Rattle.nemo_base.specs.Settings.{AreInRange, SettingsForm}
use Rattle.nemo_transform.specs.Brought.{all_faults}
use Rattle.nemo_ir.specs.Along.{counted}
use Rattle.nemo_ir.specs.Meaning.{flat_faults, flat_rows}
use Rattle.nemo_ir.specs.Nodes.{nodes}
use Rattle.nemo_core.specs.State.{State}
use Rattle.nemo_core.specs.declared.event.Event.{Event}
use Rattle.nemo_core.specs.declared.event.Event.TheVariants.{Finish}
use Rattle.nemo_plan.specs.Form.{PlanForm}
use Rattle.nemo_laws.specs.Data.{Given, Ran, cuts_at, held_parts, task_gives}
use Rattle.nemo_laws.specs.Done.{IsDoneRun}
use Rattle.nemo_laws.specs.Legal.{Faultless, Legal}
use Rattle.nemo_laws.specs.Solo.{SoloRun}
use Rattle.nemo_laws.specs.Written.{written}
use Rattle.nemo_laws.proofs.Histories.{history}
use Rattle.nemo_laws.proofs.SoloHolds.{run_holds}
use Rattle.nemo_laws.proofs.SoloLegal.{run_legal}
use Rattle.nemo_replay.specs.StageStates.{ready}
use Rattle.nemo_replay.specs.StageRun.{IsOneStage, first_stage, tasks_in, turns}
use Rattle.nemo_replay.proofs.Computed.{line_clean}
use Rattle.nemo_replay.proofs.OneStage.{clean_below, count, stage_plan}
use Rattle.nemo_replay.proofs.SinkRows.{end_clean}
use Rattle.nemo_replay.proofs.SoloTurns.{solo_run}
use Rattle.nemo_replay.proofs.TaskParts.{over_part}
use Rattle.nemo_replay.proofs.Tasks.{line_part}

none_from : (gives : Given) (k c : ℕ) → ((v : ℕ) → v < k + c → (gives v).faults ≡ []) → all_faults (map gives (counted k c)) ≡ []
none_from gives k zero f = refl
none_from gives k (suc c) f = ap (λ fs. fs ++ all_faults (map gives (counted (suc k) c))) (f k (omega arith)) ∙ none_from gives (suc k) c (λ v l. f v (omega arith))

pub record RunsWell (p : PlanForm) (k : SettingsForm) (log : List Event) : Type 0 where
  pub run : SoloRun p k [] log
  pub done : IsDoneRun p k [] log
  pub sinks : written p k log ≡ flat_rows p.flat

module _ (p : PlanForm) (k : SettingsForm) (o : IsOneStage p) (range : AreInRange k) (clean : flat_faults p.flat ≡ []) where
  abbrev m : ℕ
  m = count p

  abbrev n : ℕ
  n = tasks_in p

  -- no task has a fault at any vertex
  ran_none : (i v : ℕ) → i < n → v < m → (line_part p n i v).faults ≡ []
  ran_none i v lt l =
      let up : v + (m - 1 - v) ≡ m - 1 = omega arith in
      clean_below p o n i (m - 1 - v) v (omega arith) (ap (λ w. (line_part p n i w).faults) up ∙ line_clean p o (m - 1) i (omega arith) lt (end_clean p o clean))

  task_is : (ran : List Ran) (s : State) (i v : ℕ) → v < m → task_gives p ran s (first_stage i) v ≡ line_part p n i v
  task_is ran s i v l = over_part p o (cuts_at s) (held_parts (nodes p.flat.transforms p.dag) ran s) i v l

  task_clean : (i : ℕ) → i < n → (ran : List Ran) → Faultless p (task_gives p ran (ready m n k i) (first_stage i))
  task_clean i lt ran =
      none_from (task_gives p ran (ready m n k i) (first_stage i)) 0 m
      (λ v l. ap (λ b. b.faults) (task_is ran (ready m n k i) i v (omega arith)) ∙ ran_none i v lt (omega arith))

  -- every plan of one stage, of whose flat job no fault reaches a sink, is done by the run on one thread, and then its
  -- sinks have what the flat job gives them
  pub solo_runs : (log : List Event) → log ≡ turns k n ++ Finish ∷ [] → RunsWell p k log
  solo_runs log is =
      let plan = stage_plan p o in
      let ended : List Event = turns k n ++ Finish ∷ [] in
      let run : SoloRun p k [] ended = solo_run p m n k plan.graph_is plan.some range task_clean plan.tasks in
      let legal : Legal p k ended = run_legal p k [] o.flat o.valid tt ended run in
      let answer = history.done p k (turns k n) o.flat o.valid legal in
      subst (RunsWell p k) (sym is) (record {
        run = run;
        done = record { legal = legal; holds = run_holds p k [] o.flat o.valid tt ended run; before = turns k n; ends = refl; commits = answer.commits };
        sinks = answer.rows;
      })
