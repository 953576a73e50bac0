-- A launch: the attempt gives its parts, since what it reads was held rightly.
use Rattle.std.proofs.Common.{arith, ◌≡◌, ◌∙◌, ap, sym, subst, refl, ℕ, zero, suc, ◌+◌, ◌<◌, true, false, List, [], ◌∷◌, ◌++◌, cond, length, map, take, slice_get, slice_index_or, Option, Some, None, inl, inr}
use Rattle.std.proofs.lemmas.Bool.{cases_lt}
use Rattle.std.proofs.lemmas.List.{get_or_past, length-append}
use Rattle.std.proofs.lemmas.Option.{slice_get_within}
use Rattle.nemo_base.specs.declared.annotation.Pattern.{Pattern}
use Rattle.nemo_base.specs.declared.annotation.Pattern.TheVariants.{OneToOne, Broadcast, Hash, Spread}
use Rattle.nemo_base.specs.declared.graph.TaskGraph.{TaskGraph}
use Rattle.nemo_base.specs.declared.graph.VertexRow.{VertexRow}
use Rattle.nemo_base.specs.declared.id.TaskId.{TaskId}
use Rattle.nemo_base.specs.Settings.{SettingsForm}
use Rattle.nemo_base.proofs.Finding.{same_item}
use Rattle.nemo_value.specs.Members.{In}
use Rattle.nemo_transform.specs.Brought.{nothing}
use Rattle.nemo_ir.specs.Along.{along}
use Rattle.nemo_ir.specs.Flat.{IsFlat}
use Rattle.nemo_ir.specs.Nodes.{Node, nodes, origin}
use Rattle.nemo_ir.specs.Part.{Parts, done_by, part}
use Rattle.nemo_ir.specs.Valid.{Valid}
use Rattle.nemo_ir.specs.Value.{ByNumber}
use Rattle.nemo_ir.proofs.Entries.{along_at, along_before, along_length}
use Rattle.nemo_ir.proofs.Places.{got}
use Rattle.nemo_core.specs.Kept.{IsKept}
use Rattle.nemo_core.specs.State.{State, all_held, blocks_read, held_at, holder, reads_by, reads_of}
use Rattle.nemo_core.specs.Step.{after, all_decided, refusal}
use Rattle.nemo_core.specs.declared.event.Event.TheVariants.{Launch}
use Rattle.nemo_core.specs.declared.row.Attempt.{Attempt}
use Rattle.nemo_core.proofs.Launchable.{launch_allowed, launch_only}
use Rattle.nemo_core.proofs.TaskRows.{Starts}
use Rattle.nemo_plan.specs.Form.{PlanForm}
use Rattle.nemo_plan.specs.Over.{Tells, TellsAll, is_of_stage, over_edge, over_step, part_over}
use Rattle.nemo_plan.specs.Stages.{stages_of}
use Rattle.nemo_plan.specs.Wiring.{IsWired, read_by}
use Rattle.nemo_plan.proofs.OverParts.{over_is}
use Rattle.nemo_laws.specs.Data.{Ran, cuts_at, given_by, held_parts, parallelism_in, task_gives}
use Rattle.nemo_laws.specs.Recomputation.{IsRightOn, RunsRightly}
use Rattle.nemo_laws.proofs.Ancestry.{lies_in, of_stage, row_there}
use Rattle.nemo_laws.proofs.CarriedParts.{Extends, part_still}
use Rattle.nemo_laws.proofs.ReadBlocks.{held_narrow, held_read, held_some, held_wide}
use Rattle.nemo_laws.proofs.Stepping.{stepped}

---- one attempt more

pub more_attempts : (ran : List Ran) (new : Ran) → Extends ran (ran ++ new ∷ [])
more_attempts [] new a r h = cc
more_attempts (x ∷ xs) new zero r h = h
more_attempts (x ∷ xs) new (suc a) r h = more_attempts xs new a r h

pub last_attempt : (ran : List Ran) (new : Ran) → slice_get (ran ++ new ∷ []) (length ran) ≡ Some new
last_attempt [] new = refl
last_attempt (x ∷ xs) new = last_attempt xs new

-- an attempt of the longer list is the new one or was there
old_or_new : (ran : List Ran) (new : Ran) (a : ℕ) (r : Ran) (P : Ran → Type 0) → P new → ((b : ℕ) (s : Ran) → slice_get ran b ≡ Some s → P s) → slice_get (ran ++ new ∷ []) a ≡ Some r → P r
old_or_new [] new zero r P one old h = subst P (let same : new ≡ r = cc in same) one
old_or_new [] new (suc a) r P one old h = cc
old_or_new (x ∷ xs) new zero r P one old h = old 0 r h
old_or_new (x ∷ xs) new (suc a) r P one old h = old_or_new xs new a r P one (λ b s e. old (suc b) s e) h

same_task : (a b : ℕ) (t u : TaskId) (i j : ℕ) (xs ys : List ℕ) → Launch a t i xs ≡ Launch b u j ys → u ≡ t
same_task a b t u i j xs ys e = cc

same_number : (a b : ℕ) (t u : TaskId) (i j : ℕ) (xs ys : List ℕ) → Launch a t i xs ≡ Launch b u j ys → b ≡ a
same_number a b t u i j xs ys e = cc

same_place : (u t : TaskId) → u.stage ≡ t.stage → u.index ≡ t.index → t ≡ u
same_place u t stage place = λ i. record { stage = sym stage i; index = sym place i }

-- an attempt as it is launched for the task in this state
pub record IsLaunched (p : PlanForm) (g : TaskGraph) (ran : List Ran) (s : State) (t : TaskId) (new : Ran) : Type 0 where
  pub task : new.task ≡ t
  pub reads : new.reads ≡ blocks_read g s t
  pub cuts : new.cuts ≡ cuts_at s
  pub gives : new.gives ≡ task_gives p ran s t

---- a task at vertices of other stages

-- what a task gives there, whatever others say of what it reads
pub nothing_else : (p : PlanForm) (cuts : ℕ → List ℕ) (outside : ℕ → Parts) (t : TaskId) (v : ℕ) → is_of_stage (stages_of p.flat p.dag) t.stage v ≡ false → part_over p cuts outside t v ≡ nothing
nothing_else p cuts outside t v other = elim (cases_lt v (length ns)) [
  | inl less ↦
      let node = got ns v less in
      let made = map (over_edge (stages_of p.flat p.dag) t cuts outside (take v (along step [] ns)) node.0.parallelism) node.0.feeds in
      along_at step ns v node.0 nothing node.1
      ∙ ap (λ n. cond (is_of_stage (stages_of p.flat p.dag) t.stage n) (done_by (origin p.dag n) node.0.parallelism t.index node.0.deed made) nothing) (along_before step ns v node.0 node.1)
      ∙ ap (λ b. cond b (done_by (origin p.dag v) node.0.parallelism t.index node.0.deed made) nothing) other
  | inr past ↦ let size : length (along step [] ns) ≡ length ns = along_length step ns in get_or_past (along step [] ns) v nothing (omega arith)
]
  where
    ns : List Node
    ns = nodes p.flat.transforms p.dag

    step : List ByNumber → Node → ByNumber
    step = over_step p (stages_of p.flat p.dag) t cuts outside

module _ (p : PlanForm) (fine : IsFlat p.flat) (valid : Valid p.flat p.dag) (g : TaskGraph) (wired : IsWired p g) (k : SettingsForm) (taken : ℕ) (s : State) (ran : List Ran) (kept : IsKept g k taken s) (right : IsRightOn p g ran s) where
  module _ (t : TaskId) (all : all_held (blocks_read g s t) ≡ true) where
    -- what the holders gave is what the task reads along an edge
    tells : (from : ℕ) (producer : Node) (row : VertexRow) (pattern : Pattern) → slice_get (nodes p.flat.transforms p.dag) from ≡ Some producer → slice_get g.vertices from ≡ Some row
        → In (read_by from pattern) (reads_of g t.stage)
        → Tells (part p.flat p.dag (cuts_at s) from) (held_parts (nodes p.flat.transforms p.dag) ran s from) producer.parallelism pattern t.index
    tells from producer row pattern at there m = go pattern m
      where
        given : (j : ℕ) → (h : _) × (held_at s from j ≡ Some h) → given_by ran (holder (held_at s from j)) from ≡ part p.flat p.dag (cuts_at s) from j
        given j h = ap (λ o. given_by ran (holder o) from) h.1 ∙ (right.held from j h.0 h.1).is

        each : (q : Pattern) → In (record { vertex = from; wide = true }) (reads_of g t.stage)
            → (parallelism_in (slice_get (nodes p.flat.transforms p.dag) from) ≡ producer.parallelism)
            × ((j : ℕ) → j < producer.parallelism → given_by ran (holder (held_at s from j)) from ≡ part p.flat p.dag (cuts_at s) from j)
        each q n = (
          ap parallelism_in at,
          λ j less.
              let same : producer.parallelism ≡ row.parallelism = wired.tasks from producer row at there in
              given j (held_wide g wired.sound k s kept.tables t all (record { vertex = from; wide = true }) row j n refl there (omega (arith, less, same))),
        )

        go : (q : Pattern) → In (read_by from q) (reads_of g t.stage) → Tells (part p.flat p.dag (cuts_at s) from) (held_parts (nodes p.flat.transforms p.dag) ran s from) producer.parallelism q t.index
        go OneToOne n = given t.index (held_narrow g wired.sound k s kept.tables t all (record { vertex = from; wide = false }) n refl)
        go Broadcast n = each Broadcast n
        go Hash n = each Hash n
        go Spread n = each Spread n

    told : TellsAll p (cuts_at s) (held_parts (nodes p.flat.transforms p.dag) ran s) t
    told v node producer f own at m other at_from =
        let lies = lies_in p g wired t.stage v own in
        let low : f.from < v = wired.feeds_rise v node f at m in
        let count : length (nodes p.flat.transforms p.dag) ≡ length p.dag.vertices = wired.node_count in
        let inside : v < length (nodes p.flat.transforms p.dag) = slice_get_within (nodes p.flat.transforms p.dag) v node at in
        let before = row_there p g wired f.from (omega (arith, low, count, inside)) in
        elim (wired.feeds_join v node f lies.row before.0 at m lies.there before.1) [
          | inl same ↦ absurd (other (of_stage p g wired t.stage f.from before.0 before.1 (same.0 ∙ lies.is)))
          | inr read ↦
              tells f.from producer before.0 f.pattern at_from before.1
              (subst (λ o. In (read_by f.from f.pattern) (reads_by o)) (sym (ap (slice_get g.stages) (sym lies.is) ∙ read.is)) read.reads)
        ]

    -- the new attempt gives the parts of its task
    launched_gives : (v : ℕ) → is_of_stage (stages_of p.flat p.dag) t.stage v ≡ true → task_gives p ran s t v ≡ part p.flat p.dag (cuts_at s) v t.index
    launched_gives v own = over_is p fine valid (cuts_at s) (held_parts (nodes p.flat.transforms p.dag) ran s) t told v own

    -- and so it runs rightly
    launched_runs : (new : Ran) → IsLaunched p g ran s t new → (after_ : State) → cuts_at after_ ≡ cuts_at s → after_.sealed ≡ s.sealed → RunsRightly p g (ran ++ new ∷ []) after_ t (length ran)
    launched_runs new is u cuts seals = record {
      launch = new;
      number = last_attempt ran new;
      task = is.task;
      gives = λ v own. ap (λ (f : ℕ → _). f v) is.gives ∙ launched_gives v own ∙ ap (λ c. part p.flat p.dag c v t.index) (sym cuts);
      others = λ v other. ap (λ (f : ℕ → _). f v) is.gives ∙ nothing_else p (cuts_at s) (held_parts (nodes p.flat.transforms p.dag) ran s) t v other;
      cuts = λ w v own leads. ap (λ (f : ℕ → List ℕ). f w) (is.cuts ∙ sym cuts);
      reads = λ n b e.
          let h = held_read g wired.sound k s kept.tables t all n b e in (
            h.0,
            ap (λ l. slice_get l n) is.reads ∙ h.1,
            part_still p valid g wired ran s (ran ++ new ∷ []) u (more_attempts ran new) h.0.attempt b.vertex b.task (λ w leads. ap (λ (f : ℕ → List ℕ). f w) (sym cuts)) (right.held b.vertex b.task h.0 h.2),
          );
      sealed = λ r row m there.
          let h = held_some g wired.sound k s kept.tables t all r row m there in
          ap (λ l. slice_index_or l row.stage false) seals ∙ right.sealed r.vertex h.0 h.1 row h.2 there;
    }

  pub launch_step : (attempt : ℕ) (t : TaskId) (slot : ℕ) (reads : List ℕ) (new : Ran) → refusal g k s (Launch attempt t slot reads) ≡ None → IsLaunched p g ran s t new
      → IsRightOn p g (ran ++ new ∷ []) (after g k s (Launch attempt t slot reads))
  launch_step attempt t slot reads new none is =
      let e = Launch attempt t slot reads in
      let allowed = launch_allowed g k s attempt t slot reads none in
      let names = (launch_only g k s attempt t slot reads none).0 in
      stepped p valid g wired k taken s ran kept right e (ran ++ new ∷ []) none (record {
        carries = record { attempts = more_attempts ran new; seals = λ stage h. h; cuts = λ stage h v row there own u leads. refl };
        count = length-append ran (new ∷ []) ∙ ap (λ n. n + 1) right.count;
        makes = λ a v i h clash m. cc;
        reads = right.reads;
        settled = right.settled;
        goes = λ u row old a there runs before was v at own is_own w leads. refl;
        starts = λ u now a runs start. new_runs names.held names.number u now a runs start;
        decided = λ a r. old_or_new ran new a r (λ x. all_decided g s x.task.stage ≡ true) (ap (λ x. all_decided g s x.stage) is.task ∙ allowed.launch.decided) right.decided;
      })
    where
      new_runs : all_held (blocks_read g s t) ≡ true → attempt ≡ s.launches → (u : TaskId) (now : Option Attempt) (a : Attempt) → now ≡ Some a → Starts (Launch attempt t slot reads) u.stage u.index now
          → RunsRightly p g (ran ++ new ∷ []) (after g k s (Launch attempt t slot reads)) u a.number
      new_runs all next u now a runs start =
          let it : start.task ≡ t = same_task attempt start.attempt t start.task slot start.slot reads start.reads start.is in
          let number : start.attempt ≡ attempt = same_number attempt start.attempt t start.task slot start.slot reads start.reads start.is in
          let own : a.number ≡ length ran = ap (λ x. x.number) (same_item a (record { number = start.attempt; slot = start.slot }) (sym runs ∙ start.runs)) ∙ number ∙ next ∙ sym right.count in
          let one : t ≡ u = same_place u t (start.stage_is ∙ ap (λ x. x.stage) it) (start.place_is ∙ ap (λ x. x.index) it) in
          subst (λ n. RunsRightly p g (ran ++ new ∷ []) (after g k s (Launch attempt t slot reads)) u n) (sym own)
          (subst (λ x. RunsRightly p g (ran ++ new ∷ []) (after g k s (Launch attempt t slot reads)) x (length ran)) one
          (launched_runs t all new is (after g k s (Launch attempt t slot reads)) refl refl))
