-- Each vertex that a walk gives fits where it stands, as all in its body do, and the rows of sources have fields.
use Rattle.std.proofs.Common.{◌≡◌, ◌∙◌, ap, refl, subst, ℕ, zero, suc, ◌+◌, List, [], ◌∷◌, ◌++◌, length, map, Option, Some, None, true, Result, Ok, Err, IfOk}
use Rattle.std.proofs.lemmas.List.Folds.{list_all-append}
use Rattle.std.specs.Cmp.{first_so, second_so}
use Rattle.std.specs.List.{list_all}
use Rattle.serde_json.specs.Data.{Data, Items, no_items, item, depth}
use Rattle.nemo_transform.specs.declared.transform.Transform.{Transform}
use Rattle.nemo_job.proofs.Induction.{Each}
use Rattle.nemo_job.proofs.Layers.{vertex_stands, op_works, loop_works}
use Rattle.nemo_job.specs.Chain.{has_fields, rows_filled}
use Rattle.nemo_job.specs.Fitting.{are_fitting, fits, is_fitting}
use Rattle.nemo_job.specs.Sites.{Face, faces, port_face, sites_after, standing, stands}
use Rattle.nemo_job.specs.declared.vertex.JobVertex.{JobVertex}
use Rattle.nemo_job.specs.declared.vertex.Ref.{Ref}
use Rattle.nemo_job.specs.declared.vertex.Work.{Work}
use Rattle.nemo_job.specs.declared.vertex.Work.TheVariants.{Op, Loop}
use Rattle.nemo_bundle.specs.Answers.{Walks, on_ok}
use Rattle.nemo_bundle.specs.Ends.{coded}
use Rattle.nemo_bundle.specs.declared.end.Code.TheVariants.{VertexShape}
use Rattle.nemo_bundle.specs.declared.end.WalkEnd.{WalkEnd}
use Rattle.nemo_bundle.specs.Vertices.{Walk, Walked, in_front, vertex_at, vertex_by, vertex_from, vertex_within, walk, with_body}
use Rattle.nemo_read.specs.Vertices.{Form, Does, Loops, Head, LoopForm, body_of, head_of, work_around}
use Rattle.nemo_read.proofs.Fitting.{does_right, head_right, heads_right, is_right}
use Rattle.nemo_read.proofs.Passing.{passes, both}

-- a vertex that fits wherever it stands, with its body, and whose rows have fields
record IsRight (v : JobVertex) : Type 0 where
  pub filled : has_fields v ≡ true
  pub fitting : (before from : List Face) (depth : ℕ) → list_all is_fitting ((standing v).sites before from depth) ≡ true

filled_all : (vs : List JobVertex) → Each IsRight vs → list_all has_fields vs ≡ true
filled_all [] h = refl
filled_all (v ∷ vs) h = both (has_fields v) (list_all has_fields vs) h.0.filled (filled_all vs h.1)

fitting_after : (vs : List JobVertex) → Each IsRight vs → (before : List Face) (depth : ℕ) → list_all is_fitting (sites_after before depth (map standing vs)) ≡ true
fitting_after [] h before depth = refl
fitting_after (v ∷ vs) h before depth =
    let own = (standing v).sites before (faces (map standing (v ∷ vs))) depth in
    let others = sites_after (before ++ (standing v).face ∷ []) depth (map standing vs) in
    list_all-append is_fitting own others
    ∙ both (list_all is_fitting own) (list_all is_fitting others) (h.0.fitting before (faces (map standing (v ∷ vs))) depth) (fitting_after vs h.1 (before ++ (standing v).face ∷ []) depth)

abbrev vertex : List ℕ → List Ref → Work → JobVertex
vertex name inputs work = record { name = name; work = work; inputs = inputs }

op_right : (name : List ℕ) (inputs : List Ref) (t : Transform) → is_right name (length inputs) t ≡ true → IsRight (vertex name inputs (Op t))
op_right name inputs t h = record {
  filled = first_so (rows_filled (Op t)) (fits name (length inputs) t) h;
  fitting = λ before from depth.
      ap (λ s. list_all is_fitting (s.sites before from depth)) (vertex_stands (vertex name inputs (Op t)) ∙ ap (stands name inputs) (op_works t))
      ∙ both (fits name (length inputs) t) true (second_so (rows_filled (Op t)) (fits name (length inputs) t) h) refl;
}

loop_right : (name : List ℕ) (inputs : List Ref) (l : LoopForm) (body : List JobVertex) → Each IsRight body → IsRight (vertex name inputs (Loop l.turns l.carry body l.next))
loop_right name inputs l body h = record {
  filled = refl;
  fitting = λ before from depth.
      ap (λ s. list_all is_fitting (s.sites before from depth)) (vertex_stands (vertex name inputs (Loop l.turns l.carry body l.next)) ∙ ap (stands name inputs) (loop_works l.turns l.carry body l.next))
      ∙ fitting_after body h (map port_face l.carry) (depth + 1);
}

around_right : (name : List ℕ) (inputs : List Ref) (form : Form) (body : List JobVertex) → does_right name (length inputs) form ≡ true → Each IsRight body
    → IsRight (vertex name inputs (work_around form body))
around_right name inputs (Does t) body p h = op_right name inputs t p
around_right name inputs (Loops l) body p h = loop_right name inputs l body h

-- what a walk gives, where it gives something, is so
abbrev Gives : {X : Type 0} → (X → Type 0) → Walk X → Type 0
Gives P (Ok w) = P w.made
Gives P (Err i) = Unit {0}

then_gives : {X Y : Type 0} (P : X → Type 0) (Q : Y → Type 0) (o : Walk X) (f : Walked X → Walk Y) → Gives P o → ((w : Walked X) → P w.made → Gives Q (f w)) → Gives Q (on_ok o f)
then_gives P Q (Ok w) f h g = g w h
then_gives P Q (Err i) f h g = tt

module _ (reads : ℕ → Data → Walk JobVertex) (right : (i : ℕ) (d : Data) → Gives IsRight (reads i d)) where
  walk_right : (i : ℕ) (ds : Items) → Gives (Each IsRight) (walk reads i ds)
  walk_right i no_items = tt
  walk_right i (item d ds) =
      then_gives IsRight (Each IsRight) (reads i d) (λ v. on_ok (walk reads v.next ds) (in_front v.made)) (right i d)
      (λ v h. then_gives (Each IsRight) (Each IsRight) (walk reads v.next ds) (in_front v.made) (walk_right v.next ds) (λ w k. (h, k)))

  by_right : (h : Head) → head_right h ≡ true → (i : ℕ) → Gives IsRight (vertex_by reads (record { made = h; next = i }))
  by_right h p i =
      then_gives (Each IsRight) IsRight (walk reads i (body_of h.form)) (with_body h) (walk_right i (body_of h.form)) (λ w k. around_right h.name h.inputs h.form w.made p k)

  from_right : (i : ℕ) (o : Option Head) → passes head_right o ≡ true → Gives IsRight (vertex_from reads i o)
  from_right i (Some h) p = by_right h p (i + 1)
  from_right i None p = tt

within_right : (n i : ℕ) (d : Data) → Gives IsRight (vertex_within n i d)
unfolding vertex_within
within_right zero i d = tt
within_right (suc n) i d = from_right (vertex_within n) (within_right n) i (head_of d) (heads_right d)

at_right : (i : ℕ) (d : Data) → Gives IsRight (vertex_at i d)
at_right i d = within_right (depth d) i d

-- the vertices that are read, with those of bodies
vertices_fit : (i : ℕ) (ds : Items) (w : Walked (List JobVertex)) → walk vertex_at i ds ≡ Ok w → are_fitting w.made ≡ true
vertices_fit i ds w e = fitting_after w.made (subst (Gives (Each IsRight)) e (walk_right vertex_at at_right i ds)) [] 0

vertices_filled : (i : ℕ) (ds : Items) (w : Walked (List JobVertex)) → walk vertex_at i ds ≡ Ok w → list_all has_fields w.made ≡ true
vertices_filled i ds w e = filled_all w.made (subst (Gives (Each IsRight)) e (walk_right vertex_at at_right i ds))

-- those that are read for a bundle
pub listed_fit : (r : Result (List JobVertex) WalkEnd) (next i : ℕ) (ds : Items) → Walks {X = List JobVertex} {Y = Walked (List JobVertex)} (λ vs. record { made = vs; next = next }) r (walk vertex_at i ds)
    → IfOk (coded VertexShape r) (λ vs. are_fitting vs ≡ true)
listed_fit (Ok vs) next i ds h = vertices_fit i ds (record { made = vs; next = next }) h
listed_fit (Err e) next i ds h = tt

pub listed_filled : (r : Result (List JobVertex) WalkEnd) (next i : ℕ) (ds : Items) → Walks {X = List JobVertex} {Y = Walked (List JobVertex)} (λ vs. record { made = vs; next = next }) r (walk vertex_at i ds)
    → IfOk (coded VertexShape r) (λ vs. list_all has_fields vs ≡ true)
listed_filled (Ok vs) next i ds h = vertices_filled i ds (record { made = vs; next = next }) h
listed_filled (Err e) next i ds h = tt
