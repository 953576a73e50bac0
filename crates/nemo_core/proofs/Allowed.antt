-- What an event that is allowed has met.
use Rattle.std.proofs.Common.{◌≡◌, ℕ, List, [], ◌∷◌, ◌++◌, Bool, true, false, refl}
use Rattle.std.proofs.lemmas.Bool.{eqb-true}
use Rattle.std.specs.Cmp.{first_so}
use Rattle.std.specs.Prelude.{◌&&◌, ◌==◌, Option, None, Some, is_some, if◌then◌else◌}
use Rattle.nemo_base.specs.declared.id.TaskId.{TaskId}
use Rattle.nemo_base.specs.declared.why.Why.{Why}
use Rattle.nemo_base.specs.declared.why.Why.TheVariants.{BadName, Over}
use Rattle.nemo_core.specs.declared.event.Event.TheVariants.{Commit, Launch}
use Rattle.nemo_core.specs.declared.event.Outcome.{Outcome}
use Rattle.nemo_core.specs.declared.event.Outcome.TheVariants.{Going, Done, Faulted, Spent as SpentOut, Starved as StarvedOut}
use Rattle.nemo_core.specs.Run.{refusal_in}
use Rattle.nemo_core.specs.State.{Machine, blocks_read, is_running, task_at}
use Rattle.nemo_core.specs.Step.{are_holders, first_failing, is_going, launch_conditions}

-- no condition failed, so the first held, and none of the others failed
pub met : (b : Bool) (others : Option Why) (why : Why) → (if b then others else Some why) ≡ None → (b ≡ true) × (others ≡ None)
met true others why h = (refl, h)
met false others why h = cc

pub last_met : (cs : List (Bool × Why)) (b : Bool) (why : Why) → first_failing (cs ++ (b, why) ∷ []) ≡ None → b ≡ true
last_met [] b why h = (met b None why h).0
last_met (c ∷ cs) b why h = last_met cs b why (met c.0 (first_failing (cs ++ (b, why) ∷ [])) c.1 h).1

pub launch_there : (m : Machine) (attempt : ℕ) (t : TaskId) (slot : ℕ) (reads : List ℕ) → refusal_in m (Launch attempt t slot reads) ≡ None → is_some (task_at m.state t) ≡ true
launch_there m attempt t slot reads h = (met _ _ _ (met _ _ _ h).1).0

pub launch_next : (m : Machine) (attempt : ℕ) (t : TaskId) (slot : ℕ) (reads : List ℕ) → refusal_in m (Launch attempt t slot reads) ≡ None → attempt ≡ m.state.launches
launch_next m attempt t slot reads h =
    let holders = are_holders (blocks_read m.graph m.state t) reads in
    let own = launch_conditions m.graph m.settings m.state t slot in
    let going = met (is_going m.state.outcome) (first_failing (own ++ ((attempt == m.state.launches) && holders, BadName) ∷ [])) Over h in
    eqb-true attempt m.state.launches (first_so (attempt == m.state.launches) holders (last_met own ((attempt == m.state.launches) && holders) BadName going.1))

pub commit_runs : (m : Machine) (attempt : ℕ) → refusal_in m (Commit attempt) ≡ None → is_running m.state attempt ≡ true
commit_runs m attempt h = (met _ _ _ (met _ _ _ (met _ _ _ h).1).1).0

-- a condition that holds, before others of which none fails
pub unless : (b : Bool) (others : Option Why) (why : Why) → b ≡ true → others ≡ None → (if b then others else Some why) ≡ None
unless true others why h none = none
unless false others why h none = cc

pub going_is : (o : Outcome) → is_going o ≡ true → o ≡ Going
going_is Going h = refl
going_is Done h = cc
going_is Faulted h = cc
going_is SpentOut h = cc
going_is StarvedOut h = cc

-- every condition holds
abbrev pub AreMet : List (Bool × Why) → Type 0
AreMet [] = Unit {0}
AreMet (c ∷ cs) = (c.0 ≡ true) × AreMet cs

pub are_met : (cs : List (Bool × Why)) → first_failing cs ≡ None → AreMet cs
are_met [] h = tt
are_met (c ∷ cs) h = let m = met c.0 (first_failing cs) c.1 h in (m.0, are_met cs m.1)

pub none_fails : (cs : List (Bool × Why)) → AreMet cs → first_failing cs ≡ None
none_fails [] h = refl
none_fails (c ∷ cs) h = unless c.0 (first_failing cs) c.1 h.0 (none_fails cs h.1)
