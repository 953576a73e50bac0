-- What a sound graph says of its stages, vertices, reads and blocks.
use Rattle.std.proofs.Common.{◌≡◌, ◌∙◌, ap, sym, ℕ, ◌≤◌, ◌<◌, slice_get, true, false, Some, ⊎_elim}
use Rattle.std.specs.Prelude.{◌&&◌, ◌||◌, ◌==◌, length, nat_le, nat_lt}
use Rattle.std.specs.List.{list_all}
use Rattle.std.proofs.lemmas.Bool.{and_parts, both_ways, eqb-true, leb-true, ltb-true, or_cases}
use Rattle.nemo_base.specs.declared.graph.Read.{Read}
use Rattle.nemo_base.specs.declared.graph.StageRow.{StageRow}
use Rattle.nemo_base.specs.declared.graph.TaskGraph.{TaskGraph}
use Rattle.nemo_base.specs.declared.graph.VertexRow.{VertexRow}
use Rattle.nemo_base.specs.Places.{differ, is_in}
use Rattle.nemo_base.specs.Sound.{all_at, is_parallelism, is_read, is_sound, is_stage, is_vertex, lies_in, reads_all, stands_below}
use Rattle.nemo_base.proofs.Finding.{all_at_found, all_found, find, passing}

stages_sound : (g : TaskGraph) → is_sound g ≡ true → all_at (is_stage g) 0 g.stages ≡ true
stages_sound g sound = (and_parts (all_at (is_stage g) 0 g.stages) (list_all (is_vertex g) g.vertices) sound).0

vertices_sound : (g : TaskGraph) → is_sound g ≡ true → list_all (is_vertex g) g.vertices ≡ true
vertices_sound g sound = (and_parts (all_at (is_stage g) 0 g.stages) (list_all (is_vertex g) g.vertices) sound).1

---- a stage

pub record IsSoundStage (g : TaskGraph) (n : ℕ) (s : StageRow) : Type 0 where
  pub some : 1 ≤ s.parallelism
  pub few : s.parallelism ≤ 64
  pub own : list_all (lies_in g n) s.blocks ≡ true
  pub reads : list_all (is_read g s) s.reads ≡ true

pub stage_sound : (g : TaskGraph) (n : ℕ) (s : StageRow) → is_sound g ≡ true → slice_get g.stages n ≡ Some s → IsSoundStage g n s
stage_sound g n s sound there =
    let a = all_at_found (is_stage g) g.stages n s (stages_sound g sound) there in
    let b = and_parts (is_parallelism s.parallelism && nat_le 1 (length s.blocks) && differ s.blocks && list_all (lies_in g n) s.blocks) (list_all (is_read g s) s.reads) a in
    let c = and_parts (is_parallelism s.parallelism && nat_le 1 (length s.blocks) && differ s.blocks) (list_all (lies_in g n) s.blocks) b.0 in
    let d = and_parts (is_parallelism s.parallelism && nat_le 1 (length s.blocks)) (differ s.blocks) c.0 in
    let e = and_parts (is_parallelism s.parallelism) (nat_le 1 (length s.blocks)) d.0 in
    let f = and_parts (nat_le 1 s.parallelism) (nat_le s.parallelism 64) e.0 in
    record { some = leb-true 1 s.parallelism f.0; few = leb-true s.parallelism 64 f.1; own = c.1; reads = b.1 }

---- a vertex

pub record IsSoundVertex (g : TaskGraph) (v : VertexRow) : Type 0 where
  pub stage : StageRow
  pub made_by : slice_get g.stages v.stage ≡ Some stage
  pub parallelism : v.parallelism ≡ stage.parallelism
  pub triggers : list_all (reads_all stage) v.triggers ≡ true

pub vertex_sound : (g : TaskGraph) (n : ℕ) (v : VertexRow) → is_sound g ≡ true → slice_get g.vertices n ≡ Some v → IsSoundVertex g v
vertex_sound g n v sound there =
    let row : is_vertex g v ≡ true = all_found (is_vertex g) g.vertices n v (vertices_sound g sound) there in
    let p = passing (λ s. (v.parallelism == s.parallelism) && list_all (reads_all s) v.triggers) (slice_get g.stages v.stage) row in
    let b = and_parts (v.parallelism == p.item.parallelism) (list_all (reads_all p.item) v.triggers) p.ok in
    record { stage = p.item; made_by = p.there; parallelism = eqb-true v.parallelism p.item.parallelism b.0; triggers = b.1 }

---- a vertex that stands in the blocks of a stage

pub record IsBlockOf (g : TaskGraph) (n v : ℕ) : Type 0 where
  pub row : VertexRow
  pub named : slice_get g.vertices v ≡ Some row
  pub lies : row.stage ≡ n

pub block_sound : (g : TaskGraph) (n : ℕ) (s : StageRow) (v : ℕ) → is_sound g ≡ true → slice_get g.stages n ≡ Some s → is_in v s.blocks ≡ true → IsBlockOf g n v
block_sound g n s v sound there within =
    let f = find (λ m. m == v) s.blocks within in
    let own = all_found (lies_in g n) s.blocks f.place f.item (stage_sound g n s sound there).own f.there in
    let p = passing (λ row. row.stage == n) (slice_get g.vertices f.item) own in
    record { row = p.item; named = ap (slice_get g.vertices) (sym (eqb-true f.item v f.ok)) ∙ p.there; lies = eqb-true p.item.stage n p.ok }

---- a read

pub record IsSoundRead (g : TaskGraph) (s : StageRow) (r : Read) : Type 0 where
  pub row : VertexRow
  pub stage : StageRow
  pub named : slice_get g.vertices r.vertex ≡ Some row
  pub made_by : slice_get g.stages row.stage ≡ Some stage
  pub within : is_in r.vertex stage.blocks ≡ true
  pub lower : stage.rank < s.rank
  pub narrow : r.wide ≡ false → row.parallelism ≡ s.parallelism

pub read_sound : (g : TaskGraph) (n : ℕ) (s : StageRow) (place : ℕ) (r : Read) → is_sound g ≡ true → slice_get g.stages n ≡ Some s → slice_get s.reads place ≡ Some r → IsSoundRead g s r
read_sound g n s place r sound there is =
    let a = all_found (is_read g s) s.reads place r (stage_sound g n s sound there).reads is in
    let v = passing (λ v. stands_below g s.rank r.vertex v && (r.wide || (v.parallelism == s.parallelism))) (slice_get g.vertices r.vertex) a in
    let b = and_parts (stands_below g s.rank r.vertex v.item) (r.wide || (v.item.parallelism == s.parallelism)) v.ok in
    let t = passing (λ t. is_in r.vertex t.blocks && nat_lt t.rank s.rank) (slice_get g.stages v.item.stage) b.0 in
    let c = and_parts (is_in r.vertex t.item.blocks) (nat_lt t.item.rank s.rank) t.ok in
    record {
      row = v.item;
      stage = t.item;
      named = v.there;
      made_by = t.there;
      within = c.0;
      lower = ltb-true t.item.rank s.rank c.1;
      narrow = λ e. ⊎_elim (λ wide. absurd (both_ways r.wide e wide)) (λ same. eqb-true v.item.parallelism s.parallelism same) (or_cases r.wide (v.item.parallelism == s.parallelism) b.1);
    }
