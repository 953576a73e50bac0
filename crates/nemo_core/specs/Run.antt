-- Whole runs.
use Rattle.std.specs.Prelude.{◌≡◌, ℕ, ◌+◌, List, [], ◌∷◌, Option, None, if◌then◌else◌}
use Rattle.nemo_base.specs.Sound.{passes}
use Rattle.nemo_base.specs.declared.graph.TaskGraph.{TaskGraph}
use Rattle.nemo_base.specs.declared.id.TaskId.{TaskId}
use Rattle.nemo_base.specs.declared.settings.Settings.{Settings}
use Rattle.nemo_core.specs.declared.event.Event.{Event}
use Rattle.nemo_core.specs.declared.event.Event.TheVariants.{Launch, Commit, Repeat, GiveBack, Evict, Repartition, Ignored, Decide, Fault, Spent, Starved, Drop, Finish}
use Rattle.nemo_base.specs.declared.why.Why.{Why}
use Rattle.nemo_core.specs.State.{State, Machine, start, task_at}
use Rattle.nemo_core.specs.Step.{refusal, after, is_touched}

-- the state after these events, whether they are steps or not
abbrev pub run_on : TaskGraph → Settings → State → List Event → State
run_on g k s [] = s
run_on g k s (e ∷ es) = run_on g k (after g k s e) es

-- each event of the log is a step, and the last one leaves this state
abbrev pub Reaches : TaskGraph → Settings → State → List Event → State → Type 0
Reaches g k s [] t = s ≡ t
Reaches g k s (e ∷ es) t = (refusal g k s e ≡ None) × Reaches g k (after g k s e) es t

-- the log is one of steps from the start, and has this state
abbrev pub HasState : TaskGraph → Settings → List Event → State → Type 0
HasState g k log s = Reaches g k (start g k) log s

-- an event costs the task a loss where it is an eviction that ends its attempt or takes a block of it
abbrev pub loses : TaskGraph → State → TaskId → Event → ℕ
loses g s t (Evict slot) = if passes (is_touched g s slot t.stage t.index) (task_at s t) then 1 else 0
loses g s t (Launch attempt task slot reads) = 0
loses g s t (Commit attempt) = 0
loses g s t (Repeat attempt) = 0
loses g s t (GiveBack attempt) = 0
loses g s t (Repartition v cuts) = 0
loses g s t (Ignored v cuts) = 0
loses g s t (Decide v cuts) = 0
loses g s t (Fault attempt v kind rec) = 0
loses g s t (Spent task) = 0
loses g s t Starved = 0
loses g s t (Drop block) = 0
loses g s t Finish = 0

abbrev pub losses_from : TaskGraph → Settings → State → TaskId → List Event → ℕ
losses_from g k s t [] = 0
losses_from g k s t (e ∷ es) = loses g s t e + losses_from g k (after g k s e) t es

-- how often the task lost along the log
abbrev pub losses : TaskGraph → Settings → List Event → TaskId → ℕ
losses g k log t = losses_from g k (start g k) t log

-- a core that has taken one event more
abbrev pub stepped : Machine → Event → Machine
stepped m e = record m { state = after m.graph m.settings m.state e; taken = m.taken + 1 }

abbrev pub refusal_in : Machine → Event → Option Why
refusal_in m e = refusal m.graph m.settings m.state e
