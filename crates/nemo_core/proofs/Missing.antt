-- A needed task that lacks a read needs a task of lower rank.
use Rattle.std.proofs.Common.{arith, ◌≡◌, ◌∙◌, ap, sym, refl, ℕ, ◌<◌, [], ◌∷◌, length, slice_get, Bool, true, false, Option, Some, None}
use Rattle.std.specs.Prelude.{not, is_some, if◌then◌else◌}
use Rattle.std.specs.List.{list_any}
use Rattle.std.proofs.lemmas.Bool.{not-true}
use Rattle.std.proofs.lemmas.Option.{slice_get_within}
use Rattle.nemo_base.specs.Needed.{below, made_by, needed, readers_need}
use Rattle.nemo_base.specs.Places.{is_in, item_at, row_at}
use Rattle.nemo_base.specs.Sound.{is_sound}
use Rattle.nemo_base.specs.declared.graph.Read.{Read}
use Rattle.nemo_base.specs.declared.graph.StageRow.{StageRow}
use Rattle.nemo_base.specs.declared.graph.TaskGraph.{TaskGraph}
use Rattle.nemo_base.specs.declared.graph.VertexRow.{VertexRow}
use Rattle.nemo_base.specs.declared.settings.Settings.{Settings}
use Rattle.nemo_base.proofs.Finding.{any_found, find_failing, same_item}
use Rattle.nemo_base.proofs.NeededTasks.{below_there, need_block, want_read}
use Rattle.nemo_base.proofs.SoundGraphs.{IsSoundRead, read_sound, vertex_sound}
use Rattle.nemo_core.specs.Kept.{HasTables}
use Rattle.nemo_core.specs.State.{State, all_held, flat, has_blocks, held_in, is_gone, read_held, reads_by, reads_held, reads_of}
use Rattle.nemo_core.specs.declared.event.HeldBy.{HeldBy}
use Rattle.nemo_core.proofs.KeptTables.{blocks_length, has_all}

-- a block that a task of the stage reads is gone
record IsLacking (g : TaskGraph) (s : State) (row : StageRow) (i : ℕ) (r : Read) (vertex : VertexRow) : Type 0 where
  place : ℕ
  gone : is_gone s r.vertex place ≡ true
  below : place < vertex.parallelism
  needs : (need : ℕ → Bool) → need i ≡ true → readers_need need row place r ≡ true

-- an item of a row of blocks that isn't held is gone
gone_at : (s : State) (v i : ℕ) (x : Option HeldBy) → item_at s.blocks v i ≡ Some x → not (is_some x) ≡ true → is_gone s v i ≡ true
gone_at s v i x there none = ap (λ o. not (is_some (flat o))) there ∙ none

one_lacks : (x : Option HeldBy) → all_held (x ∷ []) ≡ false → not (is_some x) ≡ true
one_lacks (Some h) e = cc
one_lacks None e = refl

lacking : (g : TaskGraph) (k : Settings) (s : State) (row : StageRow) (i : ℕ) (r : Read) → HasTables g k s → i < row.parallelism → (f : IsSoundRead g row r) → read_held s.blocks i r ≡ false → IsLacking g s row i r f.row
lacking g k s row i r tables less f lacks = go r.wide refl
  where
    has : has_blocks g r.vertex f.row ≡ true
    has = ap (λ o. is_in r.vertex (made_by o)) f.made_by ∙ f.within

    long : length (row_at s.blocks r.vertex) ≡ f.row.parallelism
    long = blocks_length g k s r.vertex f.row tables f.named ∙ has_all g r.vertex f.row has

    which : (b : Bool) → r.wide ≡ b → all_held (if b then row_at s.blocks r.vertex else held_in s.blocks r.vertex i ∷ []) ≡ false
    which b e = ap (λ x. all_held (if x then row_at s.blocks r.vertex else held_in s.blocks r.vertex i ∷ [])) (sym e) ∙ lacks

    go : (b : Bool) → r.wide ≡ b → IsLacking g s row i r f.row
    go true e =
        let p = find_failing is_some (row_at s.blocks r.vertex) (which true e) in
        let within : p.place < length (row_at s.blocks r.vertex) = slice_get_within (row_at s.blocks r.vertex) p.place p.item p.there in
        record {
          place = p.place;
          gone = gone_at s r.vertex p.place p.item p.there p.ok;
          below = omega (arith, within, long);
          needs = λ need here. ap (λ x. if x then list_any need (below row.parallelism) else need p.place) e ∙ any_found need (below row.parallelism) i i (below_there row.parallelism i less) here;
        }
    go false e =
        let same : f.row.parallelism ≡ row.parallelism = f.narrow e in
        record {
          place = i;
          gone = one_lacks (held_in s.blocks r.vertex i) (which false e);
          below = omega (arith, less, same);
          needs = λ need here. ap (λ x. if x then list_any need (below row.parallelism) else need i) e ∙ here;
        }

-- a needed task of lower rank
pub record IsLower (g : TaskGraph) (s : State) (row : StageRow) : Type 0 where
  pub stage : ℕ
  pub lower : StageRow
  pub there : slice_get g.stages stage ≡ Some lower
  pub rank : lower.rank < row.rank
  pub place : ℕ
  pub within : place < lower.parallelism
  pub needs : needed g (is_gone s) stage place ≡ true

pub lower_needed : (g : TaskGraph) (k : Settings) (s : State) (stage : ℕ) (row : StageRow) (i : ℕ) → is_sound g ≡ true → HasTables g k s → slice_get g.stages stage ≡ Some row → i < row.parallelism
    → needed g (is_gone s) stage i ≡ true → reads_held g s (record { stage = stage; index = i }) ≡ false → IsLower g s row
lower_needed g k s stage row i sound tables there less needs lacks =
    let own : reads_of g stage ≡ row.reads = ap reads_by there in
    let p = find_failing (read_held s.blocks i) (reads_of g stage) lacks in
    let reads : slice_get row.reads p.place ≡ Some p.item = ap (λ rs. slice_get rs p.place) (sym own) ∙ p.there in
    let f = read_sound g stage row p.place p.item sound there reads in
    let l = lacking g k s row i p.item tables less f (not-true (read_held s.blocks i p.item) p.ok) in
    let v = vertex_sound g p.item.vertex f.row sound f.named in
    let same : v.stage.parallelism ≡ f.stage.parallelism = ap (λ x. x.parallelism) (same_item v.stage f.stage (sym v.made_by ∙ f.made_by)) in
    let equal : f.row.parallelism ≡ v.stage.parallelism = v.parallelism in
    let low : l.place < f.row.parallelism = l.below in
    record {
      stage = f.row.stage;
      lower = f.stage;
      there = f.made_by;
      rank = f.lower;
      place = l.place;
      within = omega (arith, same, equal, low);
      needs = need_block g (is_gone s) f.row.stage f.stage p.item.vertex l.place sound f.made_by f.within l.gone
          (want_read g (is_gone s) p.item.vertex l.place (record {
            stage = stage;
            row = row;
            there = there;
            place = p.place;
            read = p.item;
            reads = reads;
            vertex = refl;
            needs = l.needs (needed g (is_gone s) stage) needs;
          }));
    }
