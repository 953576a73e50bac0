-- What a step has to show so that all stays right.
use Rattle.std.proofs.Common.{arith, ◌≡◌, ◌∙◌, ap, sym, refl, ℕ, suc, ◌<◌, true, List, length, slice_get, Option, Some, None}
use Rattle.std.proofs.lemmas.List.{length-map}
use Rattle.std.proofs.lemmas.Option.{slice_get_within}
use Rattle.nemo_base.specs.Places.{item_at, row_at}
use Rattle.nemo_base.specs.declared.graph.TaskGraph.{TaskGraph}
use Rattle.nemo_base.specs.declared.graph.VertexRow.{VertexRow}
use Rattle.nemo_base.specs.declared.id.TaskId.{TaskId}
use Rattle.nemo_base.specs.Settings.{SettingsForm}
use Rattle.nemo_ir.specs.Rewrites.{IsAssignment}
use Rattle.nemo_ir.specs.Valid.{Valid}
use Rattle.nemo_ir.proofs.Places.{got}
use Rattle.nemo_core.specs.Kept.{AllCutsFit, HasTables, IsKept}
use Rattle.nemo_core.specs.State.{State, fresh_blocks, held_at, start, task_at}
use Rattle.nemo_core.specs.Step.{after, all_decided, is_sealed, refusal}
use Rattle.nemo_core.specs.declared.event.Event.{Event}
use Rattle.nemo_core.specs.declared.event.Event.TheVariants.{Commit}
use Rattle.nemo_core.specs.declared.event.HeldBy.{HeldBy}
use Rattle.nemo_core.specs.declared.row.Attempt.{Attempt}
use Rattle.nemo_core.specs.declared.row.TaskRow.{TaskRow}
use Rattle.nemo_core.proofs.Blocks.{IsMade, commits, held_there, held_was, stayed}
use Rattle.nemo_core.proofs.Cells.{row_there as cell}
use Rattle.nemo_core.proofs.Changed.{length_map_at}
use Rattle.nemo_core.proofs.Keeping.{kept_step}
use Rattle.nemo_core.proofs.TaskRows.{Starts, goes_on, rests, starts, task_before}
use Rattle.nemo_plan.specs.Form.{PlanForm}
use Rattle.nemo_plan.specs.Wiring.{IsWired}
use Rattle.nemo_laws.specs.Data.{Ran, cuts_at, cuts_in}
use Rattle.nemo_laws.specs.Recomputation.{AreReadsSealed, IsPart, IsRightOn, RunsRightly}
use Rattle.nemo_laws.proofs.Ancestry.{row_there}
use Rattle.nemo_laws.proofs.CarriedParts.{AgreeOn, Carries, part_still, reads_still, runs_still}

---- the cuts of a state

-- cuts that fit are an assignment
pub assigned : (p : PlanForm) (g : TaskGraph) → IsWired p g → (k : SettingsForm) (s : State) → HasTables g k s → AllCutsFit g s → IsAssignment p.dag (cuts_at s)
assigned p g wired k s tables fit v u at =
    let less : v < length p.dag.vertices = slice_get_within p.dag.vertices v u at in
    let row = row_there p g wired v less in
    let inside : v < length g.vertices = slice_get_within g.vertices v row.0 row.1 in
    let count : length s.cuts ≡ length g.vertices = tables.cuts in
    let c = got s.cuts v (omega (arith, inside, count)) in
    ap (λ o. suc (length (cuts_in o))) c.1 ∙ fit v row.0 c.0 row.1 c.1 ∙ (wired.rows v u row.0 at row.1).parallelism

---- one step

-- a block that is held has a vertex
pub held_row : (g : TaskGraph) (k : SettingsForm) (s : State) → HasTables g k s → (v i : ℕ) (h : HeldBy) → held_at s v i ≡ Some h → (row : VertexRow) × (slice_get g.vertices v ≡ Some row)
held_row g k s tables v i h held =
    let less : v < length s.blocks = slice_get_within s.blocks v (row_at s.blocks v) (cell s.blocks v i (Some h) (held_there (item_at s.blocks v i) h held)) in
    let same : length s.blocks ≡ length (start g k).blocks = sym (length-map s.blocks length) ∙ ap length tables.blocks ∙ length-map (start g k).blocks length in
    let count : length (start g k).blocks ≡ length g.vertices = length_map_at (fresh_blocks g) 0 g.vertices in
    got g.vertices v (omega (arith, less, same, count))

-- the block is the part of its task, and its stage is sealed
pub record IsSound (p : PlanForm) (g : TaskGraph) (ran : List Ran) (s : State) (v i : ℕ) (h : HeldBy) : Type 0 where
  pub part : IsPart p ran s h.attempt v i
  pub sealed : (row : VertexRow) → slice_get g.vertices v ≡ Some row → is_sealed s row.stage ≡ true

-- what an event does: what it carries on; the blocks that it makes; what the stages that it leaves sealed read; and the attempts that it lets go on or starts
pub record Takes (p : PlanForm) (g : TaskGraph) (k : SettingsForm) (ran : List Ran) (s : State) (e : Event) (more : List Ran) : Type 0 where
  pub carries : Carries p g ran s more (after g k s e)
  pub count : length more ≡ (after g k s e).launches
  pub makes : (attempt v i : ℕ) (h : HeldBy) → e ≡ Commit attempt → IsMade g k s attempt v i h → IsSound p g more (after g k s e) v i h
  pub reads : (stage : ℕ) → is_sealed (after g k s e) stage ≡ true → AreReadsSealed g s stage
  pub settled : (stage : ℕ) → is_sealed (after g k s e) stage ≡ true → all_decided g (after g k s e) stage ≡ true
  pub goes : (t : TaskId) (row old : TaskRow) (a : Attempt) → task_at (after g k s e) t ≡ Some row → row.running ≡ Some a → task_at s t ≡ Some old → old.running ≡ Some a
      → AgreeOn p g s (after g k s e) t.stage
  pub starts : (t : TaskId) (new : Option Attempt) (a : Attempt) → new ≡ Some a → Starts e t.stage t.index new → RunsRightly p g more (after g k s e) t a.number
  pub decided : (a : ℕ) (r : Ran) → slice_get more a ≡ Some r → all_decided g (after g k s e) r.task.stage ≡ true

module _ (p : PlanForm) (valid : Valid p.flat p.dag) (g : TaskGraph) (wired : IsWired p g) (k : SettingsForm) (taken : ℕ) (s : State) (ran : List Ran) (kept : IsKept g k taken s) (right : IsRightOn p g ran s) where
  pub stepped : (e : Event) (more : List Ran) → refusal g k s e ≡ None → Takes p g k ran s e more → IsRightOn p g more (after g k s e)
  stepped e more none does =
      record {
        count = does.count;
        assignment = let still = kept_step g k taken s e none kept in assigned p g wired k t still.tables (still.cuts wired.sound);
        held = λ v i h held. (sound v i h held).part;
        sealed = λ v i h row held. (sound v i h held).sealed row;
        reads = λ stage sealed. reads_still p valid g wired ran s more t does.carries stage (does.reads stage sealed);
        settled = does.settled;
        running = runs;
        decided = does.decided;
      }
    where
      t : State
      t = after g k s e

      sound : (v i : ℕ) (h : HeldBy) → held_at (after g k s e) v i ≡ Some h → IsSound p g more (after g k s e) v i h
      sound v i h held = elim (held_was g k s e v i h held) [
        | stayed was kept_on ↦
            let row = held_row g k s kept.tables v i h was in
            let sealed = right.sealed v i h row.0 was row.1 in
            record {
              part = part_still p valid g wired ran s more (after g k s e) does.carries.attempts h.attempt v i (does.carries.cuts row.0.stage sealed v row.0 row.1 refl) (right.held v i h was);
              sealed = λ other there. does.carries.seals other.stage (right.sealed v i h other was there);
            }
        | commits attempt is m ↦ does.makes attempt v i h is m
      ]

      runs : (u : TaskId) (row : TaskRow) (a : Attempt) → task_at (after g k s e) u ≡ Some row → row.running ≡ Some a → RunsRightly p g more (after g k s e) u a.number
      runs u row a there running =
          let before = task_before g k s e u.stage u.index row there in
          elim before.comes.running [
            | rests idle ↦ absurd (let clash : Some a ≡ None = sym running ∙ idle in cc)
            | goes_on same ↦
                let was = sym same ∙ running in
                runs_still p valid g wired ran s more (after g k s e) does.carries u a.number (does.goes u row before.row a there running before.there was) (right.running u before.row a before.there was)
            | starts new ↦ does.starts u row.running a running new
          ]
