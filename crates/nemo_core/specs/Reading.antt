-- What the reading calls of a core answer.
use Rattle.std.specs.Prelude.{◌≡◌, ℕ, List, [], ◌∷◌, Option, Some, None, map, slice_index_or, is_none, if◌then◌else◌}
use Rattle.nemo_base.specs.declared.graph.TaskGraph.{TaskGraph}
use Rattle.nemo_base.specs.declared.id.TaskId.{TaskId}
use Rattle.nemo_base.specs.declared.why.Why.{Why}
use Rattle.nemo_core.specs.declared.event.Event.{Event}
use Rattle.nemo_core.specs.declared.event.Event.TheVariants.{Launch}
use Rattle.nemo_core.specs.declared.event.LaunchRefused.{LaunchRefused}
use Rattle.nemo_core.specs.declared.event.LaunchRefused.TheVariants.{Refused, NoMemory}
use Rattle.nemo_core.specs.declared.event.RunningAt.{RunningAt}
use Rattle.nemo_core.specs.declared.row.Attempt.{Attempt}
use Rattle.nemo_core.specs.Needed.{below}
use Rattle.nemo_core.specs.Numbered.{first_at, or_else, item_at}
use Rattle.nemo_core.specs.State.{State, Machine, blocks_read, holder, is_number}
use Rattle.nemo_core.specs.Run.{refusal_in}
use Rattle.nemo_core.specs.Step.{running_of}

-- the launch of a task on a slot, with the right number and names
abbrev pub launch_of : Machine → TaskId → ℕ → Event
launch_of m t slot = Launch m.state.launches t slot (map holder (blocks_read m.graph m.state t))

-- the first answer that a task has, by stage and place
abbrev pub first_of : {Y : Type 0} → (ℕ → Option Y) → List ℕ → Option Y
first_of f [] = None
first_of f (i ∷ is) = or_else (f i) (first_of f is)

abbrev pub first_task : {Y : Type 0} → TaskGraph → (ℕ → ℕ → Option Y) → Option Y
first_task g f = first_at (λ stage row. first_of (f stage) (below row.parallelism)) 0 g.stages

abbrev pub may_launch : Machine → ℕ → ℕ → ℕ → Option TaskId
may_launch m slot stage i =
    let t : TaskId = record { stage = stage; index = i } in
    if is_none (refusal_in m (launch_of m t slot)) then Some t else None

-- the least task by stage and place that may be launched on the slot
abbrev pub launchable : Machine → ℕ → Option TaskId
launchable m slot = first_task m.graph (may_launch m slot)

-- where a task runs this attempt
abbrev pub running_in : List ℕ → ℕ → TaskId → Option Attempt → Option RunningAt
running_in incs attempt t None = None
running_in incs attempt t (Some a) =
    if is_number attempt a
    then Some (record { task = t; slot = a.slot; inc = slice_index_or incs a.slot 0 })
    else None

abbrev pub runs_there : State → ℕ → ℕ → ℕ → Option RunningAt
runs_there s attempt stage i = running_in s.incs attempt (record { stage = stage; index = i }) (running_of (item_at s.tasks stage i))

-- where the attempt runs
abbrev pub running_at : Machine → ℕ → Option RunningAt
running_at m attempt = first_task m.graph (runs_there m.state attempt)

-- what a refused launch tells of the refusal
abbrev pub Tells : Option Why → LaunchRefused → Type 0
Tells why (Refused told) = why ≡ Some told
Tells why NoMemory = Unit {0}
