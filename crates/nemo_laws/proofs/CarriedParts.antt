-- What holds of attempts and held blocks under some cuts holds under others that agree on all that they depend on.
use Rattle.std.proofs.Common.{◌≡◌, ◌∙◌, ap, sym, refl, ℕ, ◌<◌, Bool, true, false, cond, List, [], ◌∷◌, length, map, slice_get, Some, inl, inr}
use Rattle.std.proofs.lemmas.Option.{slice_get_within}
use Rattle.nemo_base.specs.declared.graph.Read.{Read}
use Rattle.nemo_base.specs.declared.graph.TaskGraph.{TaskGraph}
use Rattle.nemo_base.specs.declared.graph.VertexRow.{VertexRow}
use Rattle.nemo_base.specs.declared.id.BlockId.{BlockId}
use Rattle.nemo_base.specs.declared.id.TaskId.{TaskId}
use Rattle.nemo_value.specs.Counted.{below}
use Rattle.nemo_value.specs.Members.{In}
use Rattle.nemo_value.proofs.MemberLists.{in_flat, map_in}
use Rattle.nemo_ir.specs.Rewrites.{Leads}
use Rattle.nemo_ir.specs.Valid.{Valid}
use Rattle.nemo_ir.proofs.LocalParts.{parts_local}
use Rattle.nemo_ir.proofs.Places.{got}
use Rattle.nemo_core.specs.State.{State, reads_of}
use Rattle.nemo_core.specs.Step.{is_sealed}
use Rattle.nemo_plan.specs.Form.{PlanForm}
use Rattle.nemo_plan.specs.Wiring.{IsWired}
use Rattle.nemo_plan.proofs.Memberships.{at_in}
use Rattle.nemo_laws.specs.Data.{Ran, cuts_at, given_by, gives_of}
use Rattle.nemo_laws.specs.Recomputation.{AreReadsSealed, IsPart, RunsRightly, block_of, named, named_in, tasks_in}
use Rattle.nemo_laws.proofs.Ancestry.{lies_in}
use Rattle.nemo_laws.proofs.ReadBlocks.{reads}

-- the attempts of one list stand in another at their places
abbrev pub Extends : List Ran → List Ran → Type 0
Extends ran more = (a : ℕ) (r : Ran) → slice_get ran a ≡ Some r → slice_get more a ≡ Some r

-- the cuts of two states agree on a vertex and its ancestors
abbrev pub Agree : PlanForm → State → State → ℕ → Type 0
Agree p s t v = (u : ℕ) → Leads p.dag u v → cuts_at s u ≡ cuts_at t u

-- and on those of each vertex of a stage
abbrev pub AgreeOn : PlanForm → TaskGraph → State → State → ℕ → Type 0
AgreeOn p g s t stage = (v : ℕ) (row : VertexRow) → slice_get g.vertices v ≡ Some row → row.stage ≡ stage → Agree p s t v

-- a state and its attempts go on as others: attempts and seals stay, and the cuts agree on sealed stages
pub record Carries (p : PlanForm) (g : TaskGraph) (ran : List Ran) (s : State) (more : List Ran) (t : State) : Type 0 where
  pub attempts : Extends ran more
  pub seals : (stage : ℕ) → is_sealed s stage ≡ true → is_sealed t stage ≡ true
  pub cuts : (stage : ℕ) → is_sealed s stage ≡ true → AgreeOn p g s t stage

---- a block that a task reads

-- the read of a stage that names a block
record IsNamed (g : TaskGraph) (stage : ℕ) (b : BlockId) : Type 0 where
  read : Read
  member : In read (reads_of g stage)
  is : b.vertex ≡ read.vertex

named_by : (g : TaskGraph) (t : TaskId) (n : ℕ) (b : BlockId) → slice_get (named g t) n ≡ Some b → IsNamed g t.stage b
named_by g t n b e =
    let f = in_flat (named_in g t.index) b (reads_of g t.stage) (at_in (named g t) n b e) in
    record { read = f.0; member = f.1; is = go f.0 f.0.wide f.2 }
  where
    go : (r : Read) (wide : Bool) → In b (cond wide (map (block_of r.vertex) (below (tasks_in (slice_get g.vertices r.vertex)))) (block_of r.vertex t.index ∷ [])) → b.vertex ≡ r.vertex
    go r true m = ap (λ c. c.vertex) (map_in (block_of r.vertex) b (below (tasks_in (slice_get g.vertices r.vertex))) m).2
    go r false (inl e) = ap (λ c. c.vertex) e
    go r false (inr m) = absurd m

---- what stays

given_still : (ran more : List Ran) → Extends ran more → (a : ℕ) → a < length ran → given_by ran a ≡ given_by more a
given_still ran more on a less = let r = got ran a less in ap gives_of (r.1 ∙ sym (on a r.0 r.1))

launched_still : (ran more : List Ran) → Extends ran more → (a : ℕ) → a < length ran → a < length more
launched_still ran more on a less = let r = got ran a less in slice_get_within more a r.0 (on a r.0 r.1)

module _ (p : PlanForm) (valid : Valid p.flat p.dag) (g : TaskGraph) (wired : IsWired p g) (ran : List Ran) (s : State) (more : List Ran) (t : State) where
  pub part_still : Extends ran more → (a v i : ℕ) → Agree p s t v → IsPart p ran s a v i → IsPart p more t a v i
  part_still on a v i agree is =
      let same = parts_local p.flat p.dag valid (cuts_at s) (cuts_at t) v agree i in
      record {
        launched = launched_still ran more on a is.launched;
        is = sym (ap (λ (f : ℕ → _). f v) (given_still ran more on a is.launched)) ∙ is.is ∙ same;
        faultless = sym (ap (λ q. q.faults) same) ∙ is.faultless;
      }

  pub reads_still : Carries p g ran s more t → (stage : ℕ) → AreReadsSealed g s stage → AreReadsSealed g t stage
  reads_still c stage all r row m there = c.seals row.stage (all r row m there)

  pub runs_still : Carries p g ran s more t → (task : TaskId) (a : ℕ) → AgreeOn p g s t task.stage → RunsRightly p g ran s task a → RunsRightly p g more t task a
  runs_still c task a agree is = record {
    launch = is.launch;
    number = c.attempts a is.launch is.number;
    task = is.task;
    gives = λ v own.
        let at = lies_in p g wired task.stage v own in
        is.gives v own ∙ parts_local p.flat p.dag valid (cuts_at s) (cuts_at t) v (agree v at.row at.there at.is) task.index;
    others = is.others;
    cuts = λ u v own leads. let at = lies_in p g wired task.stage v own in is.cuts u v own leads ∙ agree v at.row at.there at.is u leads;
    reads = λ n b e.
        let h = is.reads n b e in
        let read = named_by g task n b e in
        let row = (reads g wired.sound task.stage read.read read.member).sound in
        let sealed = is.sealed read.read row.row read.member row.named in
        (h.0, h.1, part_still c.attempts h.0.attempt b.vertex b.task (c.cuts row.row.stage sealed b.vertex row.row (ap (slice_get g.vertices) read.is ∙ row.named) refl) h.2);
    sealed = reads_still c task.stage is.sealed;
  }
