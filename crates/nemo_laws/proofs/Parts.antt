-- The parts of a hold: which events they have.
use Rattle.std.proofs.Common.{ℕ, ◌==◌, List, [], ◌∷◌, Bool, true, false, None, Some, Option}
use Rattle.std.proofs.lemmas.Bool.{cond_both}
use Rattle.std.specs.Prelude.{is_none, if◌then◌else◌}
use Rattle.nemo_base.specs.Settings.{SettingsForm}
use Rattle.nemo_base.specs.declared.graph.TaskGraph.{TaskGraph}
use Rattle.nemo_base.specs.declared.id.BlockId.{BlockId}
use Rattle.nemo_base.specs.declared.id.TaskId.{TaskId}
use Rattle.nemo_base.specs.declared.script.Action.{Action}
use Rattle.nemo_base.specs.declared.script.ScriptLine.{ScriptLine}
use Rattle.nemo_core.specs.State.{Machine, State}
use Rattle.nemo_core.specs.Step.{after, refusal}
use Rattle.nemo_core.specs.declared.event.Event.{Event}
use Rattle.nemo_core.specs.declared.event.Event.TheVariants.{Launch, Commit, Repeat, GiveBack, Evict, Repartition, Ignored, Decide, Fault, Spent, Starved, Drop, Finish}
use Rattle.nemo_laws.specs.Holds.{Decisions, drops, event_of, finish_of, fired, launch_event}
use Rattle.nemo_laws.proofs.Every.{Every, every_map}

pub every_fired : (P : Event → Type 0) (g : TaskGraph) (k : SettingsForm) (n : ℕ) (lines : List ScriptLine) (s : State) → ((s : State) (a : Action) → P (event_of g k s a)) → Every P (fired g k n lines s)
every_fired P g k n [] s f = tt
every_fired P g k n (line ∷ lines) s f =
    let e = event_of g k s line.action in
    let later = every_fired P g k n lines (after g k s e) f in
    let others = every_fired P g k n lines s f in
    cond_both (line.at == n) (e ∷ fired g k n lines (after g k s e)) (fired g k n lines s) (Every P) (λ h. (f s line.action, later)) (λ h. others)

pub every_decision : (P : Event → Type 0) (vs : List ℕ) (es : List Event) → ((v : ℕ) (cuts : List ℕ) → P (Decide v cuts)) → Decisions vs es → Every P es
every_decision P [] [] f d = tt
every_decision P [] (e ∷ es) f d = elim d [ ]
every_decision P (v ∷ vs) [] f d = elim d [ ]
every_decision P (v ∷ vs) (Decide u cuts ∷ es) f d = (f u cuts, every_decision P vs es f d.1)
every_decision P (v ∷ vs) (Launch a t slot reads ∷ es) f d = elim d [ ]
every_decision P (v ∷ vs) (Commit a ∷ es) f d = elim d [ ]
every_decision P (v ∷ vs) (Repeat a ∷ es) f d = elim d [ ]
every_decision P (v ∷ vs) (GiveBack a ∷ es) f d = elim d [ ]
every_decision P (v ∷ vs) (Evict slot ∷ es) f d = elim d [ ]
every_decision P (v ∷ vs) (Repartition w cuts ∷ es) f d = elim d [ ]
every_decision P (v ∷ vs) (Ignored w cuts ∷ es) f d = elim d [ ]
every_decision P (v ∷ vs) (Fault a w kind rec ∷ es) f d = elim d [ ]
every_decision P (v ∷ vs) (Spent t ∷ es) f d = elim d [ ]
every_decision P (v ∷ vs) (Starved ∷ es) f d = elim d [ ]
every_decision P (v ∷ vs) (Drop b ∷ es) f d = elim d [ ]
every_decision P (v ∷ vs) (Finish ∷ es) f d = elim d [ ]

pub every_launch : (P : Event → Type 0) (m : Machine) (slot : ℕ) (o : Option TaskId) → ((a : ℕ) (t : TaskId) (slot : ℕ) (reads : List ℕ) → P (Launch a t slot reads)) → Every P (launch_event m slot o)
every_launch P m slot (Some t) f = (f _ _ _ _, tt)
every_launch P m slot None f = tt

pub every_drop : (P : Event → Type 0) (g : TaskGraph) (k : SettingsForm) (s : State) → ((b : BlockId) → P (Drop b)) → Every P (drops g k s)
every_drop P g k s f = every_map P Drop _ f

pub every_finish : (P : Event → Type 0) (g : TaskGraph) (k : SettingsForm) (s : State) → P Finish → Every P (finish_of g k s)
every_finish P g k s f = go (is_none (refusal g k s Finish))
  where
    go : (b : Bool) → Every P (if b then Finish ∷ [] else [])
    go true = (f, tt)
    go false = tt
