-- A plan of one stage: what each vertex does, and what its tasks make of the rows before it.
use Rattle.std.proofs.Common.{arith, ◌≡◌, ◌∙◌, ap, sym, refl, ℕ, zero, suc, ◌+◌, ◌<◌, List, [], ◌∷◌, ◌++◌, append-nil, length, map, take, slice_get, Some}
use Rattle.std.proofs.lemmas.List.{take_all}
use Rattle.nemo_transform.specs.Brought.{Arisen, all_faults, arisen, at, blocking, brought_by, first_rows}
use Rattle.nemo_transform.specs.Gives.{Row, answers, own_faults, rows_in}
use Rattle.nemo_transform.specs.Ports.{kinds_of}
use Rattle.nemo_transform.specs.declared.shape.PortKind.TheVariants.{Main}
use Rattle.nemo_transform.specs.declared.transform.Transform.{Transform}
use Rattle.nemo_transform.specs.declared.transform.Transform.TheVariants.{Source, Union}
use Rattle.nemo_ir.specs.Flat.{transform_of}
use Rattle.nemo_ir.specs.Nodes.{Does, deed_or, origin}
use Rattle.nemo_ir.specs.Part.{dealt_to, done_by}
use Rattle.nemo_ir.specs.Value.{ByNumber}
use Rattle.nemo_ir.specs.declared.flat.FlatVertex.{FlatVertex}
use Rattle.nemo_ir.proofs.Places.{same_item}
use Rattle.nemo_plan.specs.Form.{PlanForm}
use Rattle.nemo_plan.specs.LinePlan.{IsLinePlan}
use Rattle.nemo_plan.proofs.LinePlan.{line_plan}
use Rattle.nemo_plan.proofs.Standing.{Standing, standing}
use Rattle.nemo_replay.specs.StageRun.{IsOneStage, rows_by, task_rows, tasks_in}
use Rattle.nemo_replay.proofs.Tasks.{deed_at, deed_in, line_part}

-- how many vertices the plan has
abbrev pub count : PlanForm → ℕ
count p = length p.dag.vertices

pub stage_plan : (p : PlanForm) → IsOneStage p → IsLinePlan p.flat p.dag (count p) (tasks_in p)
stage_plan p o = line_plan p.flat p.dag o.flat o.line o.valid o.uniform

pub stands : (p : PlanForm) → IsOneStage p → (v : ℕ) → v < count p → Standing p.flat p.dag v
stands p o v l =
    let size : length p.flat.vertices ≡ count p = (stage_plan p o).flat_count in
    standing p.flat p.dag o.flat o.line o.valid o.uniform v (omega arith)

---- a transform of one Main port, or of none

dealt_kinds : (n i : ℕ) (t : Transform) → kinds_of (dealt_to n i t) ≡ kinds_of t
dealt_kinds n i (Source rows) = refl
dealt_kinds n i t = refl

first_one : (t : Transform) (f : ByNumber) → first_rows t (f ∷ []) ≡ f.rows
first_one (Union n) f = append-nil f.rows
first_one t f = refl

first_none : (t : Transform) → first_rows {X = ℕ} t [] ≡ []
first_none (Union n) = refl
first_none t = refl

-- what it gives on what comes to it
abbrev pub given_on : ℕ → Transform → ByNumber → ByNumber
given_on x t f = record { rows = rows_in (answers t f.rows []); faults = (f.faults ++ []) ++ map (arisen x) (own_faults (answers t f.rows [])) }

one_gives : (x : ℕ) (t : Transform) (f : ByNumber) → kinds_of t ≡ Main ∷ [] → at x t (f ∷ []) ≡ given_on x t f
one_gives x t f main =
    ap (λ ks. brought_by x (blocking ks (f ∷ [])) (all_faults (f ∷ [])) (answers t (first_rows t (f ∷ [])) [])) main
    ∙ ap (λ rows. brought_by x [] (all_faults (f ∷ [])) (answers t rows [])) (first_one t f)

none_gives : (x : ℕ) (t : Transform) → kinds_of t ≡ [] → (at x t []).rows ≡ rows_in (answers t [] [])
none_gives x t main =
    ap (λ ks. (brought_by x (blocking ks []) [] (answers t (first_rows {X = ℕ} t []) [])).rows) main
    ∙ ap (λ rows. rows_in (answers t rows [])) (first_none t)

module _ (p : PlanForm) (o : IsOneStage p) (n i : ℕ) where
  does_at : (v : ℕ) (l : v < count p) → deed_at p.flat v ≡ Does (stands p o v l).transform
  does_at v l = let s = stands p o v l in ap (deed_in p.flat) s.copy_at ∙ ap deed_or s.is

  -- a vertex on what the one before it gives
  part_next : (u : ℕ) (l : suc u < count p) → line_part p n i (suc u) ≡ given_on (origin p.dag (suc u)) (dealt_to n i (stands p o (suc u) l).transform) (line_part p n i u)
  part_next u l =
      let s = stands p o (suc u) l in
      ap (λ d. done_by (origin p.dag (suc u)) n i d (line_part p n i u ∷ [])) (does_at (suc u) l)
      ∙ one_gives (origin p.dag (suc u)) (dealt_to n i s.transform) (line_part p n i u) (dealt_kinds n i s.transform ∙ s.main)

  -- the first vertex
  part_first : (l : 0 < count p) → (line_part p n i 0).rows ≡ rows_in (answers (dealt_to n i (stands p o 0 l).transform) [] [])
  part_first l =
      let s = stands p o 0 l in
      ap (λ d. (done_by (origin p.dag 0) n i d []).rows) (does_at 0 l)
      ∙ none_gives (origin p.dag 0) (dealt_to n i s.transform) (dealt_kinds n i s.transform ∙ s.main)

  -- what was passed on is among the faults
  none_passed : (xs ys : List (Arisen ℕ)) → (xs ++ []) ++ ys ≡ [] → xs ≡ []
  none_passed [] ys e = refl
  none_passed (x ∷ xs) ys e = cc

  -- where a vertex has no fault, the one before it has none
  pub clean_before : (u : ℕ) → suc u < count p → (line_part p n i (suc u)).faults ≡ [] → (line_part p n i u).faults ≡ []
  clean_before u l e =
      let s = stands p o (suc u) l in
      none_passed (line_part p n i u).faults (map (arisen (origin p.dag (suc u))) (own_faults (answers (dealt_to n i s.transform) (line_part p n i u).rows [])))
      (sym (ap (λ f. f.faults) (part_next u l)) ∙ e)

  pub clean_below : (c v : ℕ) → v + c < count p → (line_part p n i (v + c)).faults ≡ [] → (line_part p n i v).faults ≡ []
  clean_below zero v l e = let here : v + 0 ≡ v = omega arith in sym (ap (λ w. (line_part p n i w).faults) here) ∙ e
  clean_below (suc c) v l e =
      let up : v + suc c ≡ suc v + c = omega arith in
      clean_before v (omega arith) (clean_below c (suc v) (omega arith) (sym (ap (λ w. (line_part p n i w).faults) up) ∙ e))

  ---- the rows

  -- the rows after one vertex more
  task_more : (xs : List FlatVertex) (j : ℕ) (x : FlatVertex) (rows : List Row) → slice_get xs j ≡ Some x
      → task_rows p.flat n i (take (suc j) xs) rows ≡ rows_by n i (transform_of p.flat x) (task_rows p.flat n i (take j xs) rows)
  task_more [] j x rows e = cc
  task_more (y ∷ ys) zero x rows e = ap (λ w. rows_by n i (transform_of p.flat w) rows) (same_item y x e)
  task_more (y ∷ ys) (suc j) x rows e = task_more ys j x (rows_by n i (transform_of p.flat y) rows) e

  rows_up : (v : ℕ) → v < count p → task_rows p.flat n i (take (suc v) p.flat.vertices) [] ≡ (line_part p n i v).rows
  rows_up zero l =
      let s = stands p o 0 l in
      task_more p.flat.vertices 0 s.copy [] s.copy_at ∙ ap (λ t. rows_by n i t []) s.is ∙ sym (part_first l)
  rows_up (suc u) l =
      let s = stands p o (suc u) l in
      task_more p.flat.vertices (suc u) s.copy [] s.copy_at
      ∙ ap (λ t. rows_by n i t (task_rows p.flat n i (take (suc u) p.flat.vertices) [])) s.is
      ∙ ap (λ rows. rows_in (answers (dealt_to n i s.transform) rows [])) (rows_up u (omega arith))
      ∙ sym (ap (λ f. f.rows) (part_next u l))

  -- after all vertices a task has the rows that it gives at the last
  pub rows_end : (v : ℕ) → suc v ≡ count p → task_rows p.flat n i p.flat.vertices [] ≡ (line_part p n i v).rows
  rows_end v e =
      let size : length p.flat.vertices ≡ count p = (stage_plan p o).flat_count in
      sym (ap (λ xs. task_rows p.flat n i xs []) (take_all (suc v) p.flat.vertices (omega arith))) ∙ rows_up v (omega arith)
