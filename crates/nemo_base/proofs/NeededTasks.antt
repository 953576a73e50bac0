-- The recursion by turns of the needed tasks meets its sentence.
use Rattle.std.proofs.Common.{arith, ◌≡◌, ◌∙◌, ap, sym, refl, ℕ, zero, suc, ◌+◌, ◌<◌, ◌≤◌, List, [], ◌∷◌, slice_get, Bool, true, false, Option, Some, None, ⊎_elim}
use Rattle.std.specs.Prelude.{◌&&◌, ◌==◌, if◌then◌else◌}
use Rattle.std.specs.List.{list_any}
use Rattle.std.proofs.lemmas.Bool.{and_from, and_parts, eq-eqb, eqb-true, or_cases, or_left, or_right}
use Rattle.nemo_base.specs.declared.graph.Read.{Read}
use Rattle.nemo_base.specs.declared.graph.StageRow.{StageRow}
use Rattle.nemo_base.specs.declared.graph.TaskGraph.{TaskGraph}
use Rattle.nemo_value.specs.Counted.{counted}
use Rattle.nemo_base.specs.Needed.{below, blocks_of, is_read_by, is_sink, is_wanted_by, made_by, needed, needed_in, needs_read, ranks, readers_need, wanted}
use Rattle.nemo_base.specs.NeedLaw.{NeedGrows, NeedLaw, NeedMeets, NeedStays, WantGrows}
use Rattle.nemo_base.specs.Sound.{is_in, is_sound}
use Rattle.nemo_base.proofs.Finding.{any_in, any_at_found, any_found, any_more, find, find_at, in_at, same_if, same_item}
use Rattle.nemo_base.proofs.SoundGraphs.{block_sound, read_sound}

-- the rank of each stage is below the number of ranks
pub rank_below : (rows : List StageRow) (n : ℕ) (row : StageRow) → slice_get rows n ≡ Some row → row.rank < ranks rows
rank_below [] n row e = cc
rank_below (r ∷ rows) zero row e = let same : r.rank ≡ row.rank = ap (λ x. x.rank) (same_item r row e) in omega (arith, same)
rank_below (r ∷ rows) (suc n) row e = let later : row.rank < ranks rows = rank_below rows n row e in omega (arith, later)

---- readers

-- a needed task reads the block
pub record IsReader (g : TaskGraph) (need : ℕ → ℕ → Bool) (v i : ℕ) : Type 0 where
  pub stage : ℕ
  pub row : StageRow
  pub there : slice_get g.stages stage ≡ Some row
  pub place : ℕ
  pub read : Read
  pub reads : slice_get row.reads place ≡ Some read
  pub vertex : read.vertex ≡ v
  pub needs : readers_need (need stage) row i read ≡ true

pub reader : (g : TaskGraph) (need : ℕ → ℕ → Bool) (v i : ℕ) → is_read_by g need v i ≡ true → IsReader g need v i
reader g need v i h =
    let f = find_at (λ stage row. list_any (needs_read (need stage) row v i) row.reads) g.stages h in
    let r = find (needs_read (need f.place) f.item v i) f.item.reads f.ok in
    let b = and_parts (r.item.vertex == v) (readers_need (need f.place) f.item i r.item) r.ok in
    record { stage = f.place; row = f.item; there = f.there; place = r.place; read = r.item; reads = r.there; vertex = eqb-true r.item.vertex v b.0; needs = b.1 }

pub is_reader : (g : TaskGraph) (need : ℕ → ℕ → Bool) (v i : ℕ) → IsReader g need v i → is_read_by g need v i ≡ true
is_reader g need v i r =
    any_at_found (λ stage row. list_any (needs_read (need stage) row v i) row.reads) g.stages r.stage r.row r.there
    (any_found (needs_read (need r.stage) r.row v i) r.row.reads r.place r.read r.reads (and_from (r.read.vertex == v) (readers_need (need r.stage) r.row i r.read) (eq-eqb r.read.vertex v r.vertex) r.needs))

readers_more : (need later : ℕ → Bool) (row : StageRow) (i : ℕ) (r : Read) → ((j : ℕ) → need j ≡ true → later j ≡ true) → readers_need need row i r ≡ true → readers_need later row i r ≡ true
readers_more need later row i r more h = go r.wide h
  where
    go : (b : Bool) → (if b then list_any need (below row.parallelism) else need i) ≡ true → (if b then list_any later (below row.parallelism) else later i) ≡ true
    go true h = any_more need later (below row.parallelism) more h
    go false h = more i h

-- every reader of a block of this stage has a greater rank
above : (g : TaskGraph) (need : ℕ → ℕ → Bool) (n : ℕ) (s : StageRow) (v i : ℕ) → is_sound g ≡ true → slice_get g.stages n ≡ Some s → is_in v s.blocks ≡ true → (r : IsReader g need v i) → s.rank < r.row.rank
above g need n s v i sound there within r =
    let f = read_sound g r.stage r.row r.place r.read sound r.there r.reads in
    let b = block_sound g n s v sound there within in
    let same : f.row ≡ b.row = same_item f.row b.row (sym f.named ∙ ap (slice_get g.vertices) r.vertex ∙ b.named) in
    let stage : f.stage ≡ s = same_item f.stage s (sym f.made_by ∙ ap (λ x. slice_get g.stages x.stage) same ∙ ap (slice_get g.stages) b.lies ∙ there) in
    let rank : f.stage.rank ≡ s.rank = ap (λ x. x.rank) stage in
    let lower : f.stage.rank < r.row.rank = f.lower in
    omega (arith, rank, lower)

---- need

-- each task of greater rank for which `need` holds is one for which `later` holds
abbrev pub Rises : TaskGraph → (ℕ → ℕ → Bool) → (ℕ → ℕ → Bool) → ℕ → Type 0
Rises g need later rank = (stage : ℕ) (row : StageRow) → slice_get g.stages stage ≡ Some row → rank < row.rank → (i : ℕ) → need stage i ≡ true → later stage i ≡ true

read_more : (g : TaskGraph) (need later : ℕ → ℕ → Bool) (n : ℕ) (s : StageRow) (v i : ℕ) → is_sound g ≡ true → slice_get g.stages n ≡ Some s → is_in v s.blocks ≡ true
    → Rises g need later s.rank → is_read_by g need v i ≡ true → is_read_by g later v i ≡ true
read_more g need later n s v i sound there within rise h =
    let r = reader g need v i h in
    is_reader g later v i (record {
      stage = r.stage;
      row = r.row;
      there = r.there;
      place = r.place;
      read = r.read;
      reads = r.reads;
      vertex = r.vertex;
      needs = readers_more (need r.stage) (later r.stage) r.row i r.read (rise r.stage r.row r.there (above g need n s v i sound there within r)) r.needs;
    })

want_more : (g : TaskGraph) (need later : ℕ → ℕ → Bool) (n : ℕ) (s : StageRow) (v i : ℕ) → is_sound g ≡ true → slice_get g.stages n ≡ Some s → is_in v s.blocks ≡ true
    → Rises g need later s.rank → is_wanted_by g need v i ≡ true → is_wanted_by g later v i ≡ true
want_more g need later n s v i sound there within rise h = ⊎_elim
    (λ sink. or_left (is_sink g v) (is_read_by g later v i) sink)
    (λ reads. or_right (is_sink g v) (is_read_by g later v i) (read_more g need later n s v i sound there within rise reads))
    (or_cases (is_sink g v) (is_read_by g need v i) h)

-- with turns enough, no turn more or less changes a need
need_more : (g : TaskGraph) (gone : ℕ → ℕ → Bool) → is_sound g ≡ true
    → (m n stage : ℕ) (row : StageRow) → slice_get g.stages stage ≡ Some row → ranks g.stages ≤ m + row.rank → (i : ℕ) → needed_in g gone n stage i ≡ true → needed_in g gone m stage i ≡ true
need_more g gone sound zero n stage row there enough i h = let low : row.rank < ranks g.stages = rank_below g.stages stage row there in absurd (omega (arith, low, enough))
need_more g gone sound (suc m) zero stage row there enough i h = cc
need_more g gone sound (suc m) (suc n) stage row there enough i h =
    let own : blocks_of g stage ≡ row.blocks = ap made_by there in
    let f = find (λ v. gone v i && is_wanted_by g (needed_in g gone n) v i) (blocks_of g stage) h in
    let b = and_parts (gone f.item i) (is_wanted_by g (needed_in g gone n) f.item i) f.ok in
    let within : is_in f.item row.blocks ≡ true = in_at f.item row.blocks f.place (ap (λ vs. slice_get vs f.place) (sym own) ∙ f.there) in
    let rise : Rises g (needed_in g gone n) (needed_in g gone m) row.rank = λ t r is up j. need_more g gone sound m n t r is (omega (arith, up, enough)) j in
    any_found (λ v. gone v i && is_wanted_by g (needed_in g gone m) v i) (blocks_of g stage) f.place f.item f.there
    (and_from (gone f.item i) (is_wanted_by g (needed_in g gone m) f.item i) b.0 (want_more g (needed_in g gone n) (needed_in g gone m) stage row f.item i sound there within rise b.1))

---- the law

no_stage : (g : TaskGraph) (gone : ℕ → ℕ → Bool) (n stage i : ℕ) → slice_get g.stages stage ≡ None → needed_in g gone n stage i ≡ false
no_stage g gone zero stage i e = refl
no_stage g gone (suc n) stage i e = ap (λ o. list_any (λ v. gone v i && is_wanted_by g (needed_in g gone n) v i) (made_by o)) e

pub need_meets : NeedMeets
need_meets g gone sound stage i = go (slice_get g.stages stage) refl
  where
    go : (o : Option StageRow) → slice_get g.stages stage ≡ o → needed_in g gone (ranks g.stages) stage i ≡ needed_in g gone (suc (ranks g.stages)) stage i
    go None e = no_stage g gone (ranks g.stages) stage i e ∙ sym (no_stage g gone (suc (ranks g.stages)) stage i e)
    go (Some row) e = same_if (needed_in g gone (ranks g.stages) stage i) (needed_in g gone (suc (ranks g.stages)) stage i)
        (need_more g gone sound (suc (ranks g.stages)) (ranks g.stages) stage row e (omega arith) i)
        (need_more g gone sound (ranks g.stages) (suc (ranks g.stages)) stage row e (omega arith) i)

want_each : (g : TaskGraph) (need later : ℕ → ℕ → Bool) (v i : ℕ) → ((stage j : ℕ) → need stage j ≡ true → later stage j ≡ true) → is_wanted_by g need v i ≡ true → is_wanted_by g later v i ≡ true
want_each g need later v i rise h = ⊎_elim
    (λ sink. or_left (is_sink g v) (is_read_by g later v i) sink)
    (λ reads. let r = reader g need v i reads in
    or_right (is_sink g v) (is_read_by g later v i) (is_reader g later v i (record {
      stage = r.stage;
      row = r.row;
      there = r.there;
      place = r.place;
      read = r.read;
      reads = r.reads;
      vertex = r.vertex;
      needs = readers_more (need r.stage) (later r.stage) r.row i r.read (rise r.stage) r.needs;
    })))
    (or_cases (is_sink g v) (is_read_by g need v i) h)

-- where what is wanted by the one need and gone by the other is gone by the one
need_within : (g : TaskGraph) (gone other : ℕ → ℕ → Bool) → is_sound g ≡ true → ((v i : ℕ) → other v i ≡ true → wanted g gone v i ≡ true → gone v i ≡ true)
    → (n stage i : ℕ) → needed_in g other n stage i ≡ true → needed g gone stage i ≡ true
need_within g gone other sound lost zero stage i h = cc
need_within g gone other sound lost (suc n) stage i h =
    let f = find (λ v. other v i && is_wanted_by g (needed_in g other n) v i) (blocks_of g stage) h in
    let b = and_parts (other f.item i) (is_wanted_by g (needed_in g other n) f.item i) f.ok in
    let want = want_each g (needed_in g other n) (needed g gone) f.item i (need_within g gone other sound lost n) b.1 in
    need_meets g gone sound stage i
    ∙ any_found (λ v. gone v i && wanted g gone v i) (blocks_of g stage) f.place f.item f.there (and_from (gone f.item i) (wanted g gone f.item i) (lost f.item i b.0 want) want)

pub need_grows : NeedGrows
need_grows g gone more sound grow = need_within g more gone sound (λ v j lost want. grow v j lost) (ranks g.stages)

pub want_grows : WantGrows
want_grows g gone more sound grow v i h = want_each g (needed g gone) (needed g more) v i (need_grows g gone more sound grow) h

pub need_stays : NeedStays
need_stays g gone more sound grow lost n i =
    let back = need_within g gone more sound lost (ranks g.stages) in (
      same_if (needed g more n i) (needed g gone n i) (back n i) (need_grows g gone more sound grow n i),
      same_if (wanted g more n i) (wanted g gone n i) (want_each g (needed g more) (needed g gone) n i back) (want_grows g gone more sound grow n i),
    )

-- need and want depend on what is gone alone
pub need_same : (g : TaskGraph) (gone other : ℕ → ℕ → Bool) → is_sound g ≡ true → ((v i : ℕ) → gone v i ≡ other v i)
    → (n i : ℕ) → (needed g other n i ≡ needed g gone n i) × (wanted g other n i ≡ wanted g gone n i)
need_same g gone other sound same = need_stays g gone other sound (λ v j h. sym (same v j) ∙ h) (λ v j h want. same v j ∙ h)

pub need_law : NeedLaw
need_law = record { meets = need_meets; grows = need_grows; wants = want_grows; stays = need_stays }

---- one block or one reader

-- the task that makes a block which is gone and wanted is needed
pub need_block : (g : TaskGraph) (gone : ℕ → ℕ → Bool) (n : ℕ) (s : StageRow) (v i : ℕ) → is_sound g ≡ true → slice_get g.stages n ≡ Some s → is_in v s.blocks ≡ true
    → gone v i ≡ true → wanted g gone v i ≡ true → needed g gone n i ≡ true
need_block g gone n s v i sound there within lost want =
    need_meets g gone sound n i
    ∙ any_in (λ v. gone v i && wanted g gone v i) v (blocks_of g n) (ap (λ o. is_in v (made_by o)) there ∙ within) (and_from (gone v i) (wanted g gone v i) lost want)

-- a block that a needed task reads is wanted
pub want_read : (g : TaskGraph) (gone : ℕ → ℕ → Bool) (v i : ℕ) → IsReader g (needed g gone) v i → wanted g gone v i ≡ true
want_read g gone v i r = or_right (is_sink g v) (is_read_by g (needed g gone) v i) (is_reader g (needed g gone) v i r)

counted_there : (k n i : ℕ) → i < n → slice_get (counted k n) i ≡ Some (k + i)
counted_there k zero i less = absurd (omega arith)
counted_there k (suc n) zero less = let e : k ≡ k + 0 = omega arith in ap (λ j. Some j) e
counted_there k (suc n) (suc i) less = let e : suc k + i ≡ k + suc i = omega arith in counted_there (suc k) n i (omega arith) ∙ ap (λ j. Some j) e

pub below_there : (n i : ℕ) → i < n → slice_get (below n) i ≡ Some i
below_there n i less = let e : 0 + i ≡ i = omega arith in counted_there 0 n i less ∙ ap (λ j. Some j) e
