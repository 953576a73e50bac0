-- The blocks that a task reads, by their names, where each is held.
use Rattle.std.proofs.Common.{arith, ◌≡◌, ◌∙◌, ap, sym, subst, refl, ℕ, suc, ◌+◌, ◌<◌, ◌≤◌, Bool, true, false, cond, List, [], ◌∷◌, ◌++◌, length, map, slice_get, Option, Some, None, inl, inr}
use Rattle.std.specs.Prelude.{is_some}
use Rattle.std.specs.List.{flat_map}
use Rattle.nemo_base.specs.Needed.{blocks_of, made_by}
use Rattle.nemo_base.specs.Places.{is_in, row_at}
use Rattle.nemo_base.specs.Sound.{is_sound}
use Rattle.nemo_base.specs.declared.graph.Read.{Read}
use Rattle.nemo_base.specs.declared.graph.StageRow.{StageRow}
use Rattle.nemo_base.specs.declared.graph.TaskGraph.{TaskGraph}
use Rattle.nemo_base.specs.declared.graph.VertexRow.{VertexRow}
use Rattle.nemo_base.specs.declared.id.BlockId.{BlockId}
use Rattle.nemo_base.specs.declared.id.TaskId.{TaskId}
use Rattle.nemo_base.specs.declared.settings.Settings.{Settings}
use Rattle.nemo_base.proofs.Finding.{all_found}
use Rattle.nemo_base.proofs.SoundGraphs.{IsSoundRead, read_sound, stage_sound, vertex_sound}
use Rattle.nemo_value.specs.Counted.{below, counted}
use Rattle.nemo_value.specs.Members.{In}
use Rattle.nemo_value.proofs.JoinedLists.{map_flat, map_map}
use Rattle.nemo_value.proofs.MemberLists.{flat_in, in_map}
use Rattle.nemo_core.specs.Kept.{HasTables}
use Rattle.nemo_core.specs.State.{State, all_held, blocks_read, flat, held_at, read_in, reads_by, reads_of}
use Rattle.nemo_core.specs.declared.event.HeldBy.{HeldBy}
use Rattle.nemo_core.proofs.Changed.{get_map, on}
use Rattle.nemo_core.proofs.KeptTables.{blocks_length, has_all}
use Rattle.nemo_plan.proofs.Memberships.{below_in, in_at}
use Rattle.nemo_laws.specs.Recomputation.{block_of, named, named_in, tasks_in}

next : (k i : ℕ) → suc k + i ≡ k + suc i
next k i = omega arith

none : (k : ℕ) → k + 0 ≡ k
none k = omega arith

from_none : (k : ℕ) → 0 + k ≡ k
from_none k = omega arith

-- blocks, place by place
each_block : (k : ℕ) (blocks : List (Option HeldBy)) (f : ℕ → Option HeldBy) → ((i : ℕ) → f (k + i) ≡ flat (slice_get blocks i)) → blocks ≡ map f (counted k (length blocks))
each_block k [] f same = λ i. []
each_block k (b ∷ bs) f same =
    let first : b ≡ f k = sym (same 0) ∙ ap f (none k) in
    let rest = each_block (suc k) bs f (λ i. ap f (next k i) ∙ same (suc i)) in
    λ i. first i ∷ rest i

flat_alike : {A B : Type 0} (f g : A → List B) (xs : List A) → ((x : A) → In x xs → f x ≡ g x) → flat_map f xs ≡ flat_map g xs
flat_alike f g [] h = refl
flat_alike f g (x ∷ xs) h = let rest = flat_alike f g xs (λ y m. h y (inr m)) in λ i. h x (inl refl) i ++ rest i

is_there : {X : Type 0} (o : Option X) → is_some o ≡ true → (x : X) × (o ≡ Some x)
is_there (Some x) h = (x, refl)
is_there None h = cc

-- who holds a block
abbrev pub holds : State → BlockId → Option HeldBy
holds s b = held_at s b.vertex b.task

-- a stage that reads
pub record Reads (g : TaskGraph) (stage : ℕ) (r : Read) : Type 0 where
  pub reader : StageRow
  pub is : slice_get g.stages stage ≡ Some reader
  pub sound : IsSoundRead g reader r

module _ (g : TaskGraph) (sound : is_sound g ≡ true) where
  pub reads : (stage : ℕ) (r : Read) → In r (reads_of g stage) → Reads g stage r
  reads stage r m = go (slice_get g.stages stage) refl m
    where
      go : (o : Option StageRow) → slice_get g.stages stage ≡ o → In r (reads_by o) → Reads g stage r
      go None there n = absurd n
      go (Some row) there n =
          let at = in_at row.reads r n in
          record { reader = row; is = there; sound = read_sound g stage row at.place r sound there at.is }

  module _ (k : Settings) (s : State) (tables : HasTables g k s) where
    -- the blocks of a vertex that is read
    row_read : (stage : ℕ) (r : Read) → In r (reads_of g stage) → row_at s.blocks r.vertex ≡ map (holds s) (map (block_of r.vertex) (below (tasks_in (slice_get g.vertices r.vertex))))
    row_read stage r m =
        let is = (reads stage r m).sound in
        let has : is_in r.vertex (blocks_of g is.row.stage) ≡ true = ap (λ o. is_in r.vertex (made_by o)) is.made_by ∙ is.within in
        let size = blocks_length g k s r.vertex is.row tables is.named ∙ has_all g r.vertex is.row has ∙ ap tasks_in (sym is.named) in
        each_block 0 (row_at s.blocks r.vertex) (held_at s r.vertex) (λ i. ap (held_at s r.vertex) (from_none i))
        ∙ ap (λ n. map (held_at s r.vertex) (below n)) size
        ∙ sym (map_map (holds s) (block_of r.vertex) (below (tasks_in (slice_get g.vertices r.vertex))))

    read_named : (stage i : ℕ) (r : Read) → In r (reads_of g stage) → read_in s.blocks i r ≡ map (holds s) (named_in g i r)
    read_named stage i r m = go r.wide
      where
        go : (b : Bool) → cond b (row_at s.blocks r.vertex) (held_at s r.vertex i ∷ [])
            ≡ map (holds s) (cond b (map (block_of r.vertex) (below (tasks_in (slice_get g.vertices r.vertex)))) (block_of r.vertex i ∷ []))
        go true = row_read stage r m
        go false = refl

    pub blocks_named : (t : TaskId) → blocks_read g s t ≡ map (holds s) (named g t)
    blocks_named t =
        flat_alike (read_in s.blocks t.index) (λ r. map (holds s) (named_in g t.index r)) (reads_of g t.stage) (λ r m. read_named t.stage t.index r m)
        ∙ sym (map_flat (holds s) (named_in g t.index) (reads_of g t.stage))

    module _ (t : TaskId) (all : all_held (blocks_read g s t) ≡ true) where
      -- each block that is read is held
      pub held_read : (n : ℕ) (b : BlockId) → slice_get (named g t) n ≡ Some b → (h : HeldBy) × (slice_get (blocks_read g s t) n ≡ Some (Some h)) × (holds s b ≡ Some h)
      held_read n b e =
          let at : slice_get (blocks_read g s t) n ≡ Some (holds s b) = ap (λ l. slice_get l n) (blocks_named t) ∙ get_map (holds s) (named g t) n ∙ ap (on (holds s)) e in
          let h = is_there (holds s b) (all_found is_some (blocks_read g s t) n (holds s b) all at) in
          (h.0, at ∙ ap Some h.1, h.1)

      held_in_reads : (r : Read) (b : BlockId) → In r (reads_of g t.stage) → In b (named_in g t.index r) → (h : HeldBy) × (holds s b ≡ Some h)
      held_in_reads r b m n =
          let at = in_at (named g t) b (flat_in (named_in g t.index) b r (reads_of g t.stage) m n) in
          let h = held_read at.place b at.is in
          (h.0, h.2)

      pub held_narrow : (r : Read) → In r (reads_of g t.stage) → r.wide ≡ false → (h : HeldBy) × (held_at s r.vertex t.index ≡ Some h)
      held_narrow r m narrow =
          held_in_reads r (block_of r.vertex t.index) m
          (subst (λ b. In (block_of r.vertex t.index) (cond b (map (block_of r.vertex) (below (tasks_in (slice_get g.vertices r.vertex)))) (block_of r.vertex t.index ∷ []))) (sym narrow) (inl refl))

      pub held_wide : (r : Read) (row : VertexRow) (j : ℕ) → In r (reads_of g t.stage) → r.wide ≡ true → slice_get g.vertices r.vertex ≡ Some row → j < row.parallelism
          → (h : HeldBy) × (held_at s r.vertex j ≡ Some h)
      held_wide r row j m wide there less =
          let own = below_in row.parallelism j less in
          let in_all = subst (λ o. In j (below (tasks_in o))) (sym there) own in
          held_in_reads r (block_of r.vertex j) m
          (subst (λ b. In (block_of r.vertex j) (cond b (map (block_of r.vertex) (below (tasks_in (slice_get g.vertices r.vertex)))) (block_of r.vertex t.index ∷ []))) (sym wide)
          (in_map (block_of r.vertex) j (below (tasks_in (slice_get g.vertices r.vertex))) in_all))

      -- a block of each vertex that is read is held
      pub held_some : (r : Read) (row : VertexRow) → In r (reads_of g t.stage) → slice_get g.vertices r.vertex ≡ Some row → (i : ℕ) × (h : HeldBy) × (held_at s r.vertex i ≡ Some h)
      held_some r row m there = go r.wide refl
        where
          go : (b : Bool) → r.wide ≡ b → (i : ℕ) × (h : HeldBy) × (held_at s r.vertex i ≡ Some h)
          go false e = let h = held_narrow r m e in (t.index, h.0, h.1)
          go true e =
              let v = vertex_sound g r.vertex row sound there in
              let some : 1 ≤ v.stage.parallelism = (stage_sound g row.stage v.stage sound v.made_by).some in
              let same : row.parallelism ≡ v.stage.parallelism = v.parallelism in
              let h = held_wide r row 0 m e there (omega (arith, some, same)) in
              (0, h.0, h.1)
