-- The number of a copy is that of its operation.
use Rattle.std.proofs.Common.{arith, ◌≡◌, ◌∙◌, refl, sym, ap, subst, ℕ, zero, suc, ◌+◌, ◌<◌, List, [], ◌∷◌, ◌++◌, Bool, true, false, not, length, map, slice_get, Some, length-append, unwrap_or}
use Rattle.std.proofs.lemmas.List.Elements.{filter_map-append}
use Rattle.std.proofs.lemmas.Option.{slice_get_within}
use Rattle.std.specs.List.{cons_option, filter_map}
use Rattle.nemo_transform.specs.declared.transform.Transform.{Transform}
use Rattle.nemo_job.specs.Mean.{turn_path, turns_from}
use Rattle.nemo_job.specs.Refusals.{IsJob, is_good}
use Rattle.nemo_job.specs.Sites.{Does, Loops, Face, Site, Standing, Working, faces, port_face, sites_after, standing, stands, working}
use Rattle.nemo_job.specs.Unrolled.{Copies, Copy, Fed, Scope, Vertex, at_start, bind, bound, copied, each, fed_by, turn, unroll_vertex, unroll_work, unrolled}
use Rattle.nemo_job.specs.declared.vertex.JobVertex.{JobVertex}
use Rattle.nemo_job.specs.declared.vertex.Ref.{Ref}
use Rattle.nemo_job.specs.declared.vertex.Work.{Work}
use Rattle.nemo_job.specs.declared.vertex.Work.TheVariants.{Op, Loop}
use Rattle.nemo_job.proofs.FineSites.{AllFine, fine_left, fine_right, fine_sites}
use Rattle.nemo_job.proofs.Induction.{Each, each_one}
use Rattle.nemo_job.proofs.Layers.{loop_unrolled, loop_works, op_unrolled, op_works, vertex_stands, vertex_unrolled}
use Rattle.nemo_flat.specs.Flattened.{operation_in, operations}

-- the operations at some sites
abbrev operations_at : List Site → List Transform
operations_at ss = filter_map (λ s. operation_in s.doing) ss

-- those of a work
abbrev operations_of : Working → ℕ → List Transform
operations_of w depth = cons_option (operation_in w.doing) (operations_at (w.sites depth))

pub at_before : {X : Type 0} (xs ys : List X) (k : ℕ) → k < length xs → slice_get (xs ++ ys) k ≡ slice_get xs k
at_before [] ys k lt = absurd (omega arith)
at_before (x ∷ xs) ys zero lt = refl
at_before (x ∷ xs) ys (suc k) lt = at_before xs ys k (omega arith)

pub at_behind : {X : Type 0} (xs ys : List X) (k : ℕ) → slice_get (xs ++ ys) (length xs + k) ≡ slice_get ys k
at_behind [] ys k = let none : 0 + k ≡ k = omega arith in ap (slice_get ys) none
at_behind (x ∷ xs) ys k = let next : suc (length xs) + k ≡ suc (length xs + k) = omega arith in ap (slice_get (x ∷ xs ++ ys)) next ∙ at_behind xs ys k

module _ (all : List Transform) where
  -- these stand in the table from a place on
  abbrev Stand : ℕ → List Transform → Type 0
  Stand n ts = (k : ℕ) (t : Transform) → slice_get ts k ≡ Some t → slice_get all (n + k) ≡ Some t

  -- each copy has the transform of its number
  abbrev Tabled : List Copy → Type 0
  Tabled [] = Unit {0}
  Tabled (c ∷ cs) = (slice_get all c.number ≡ Some c.transform) × Tabled cs

  -- copies of operations whose numbers go from one on
  record Made (first count : ℕ) (cs : Copies) : Type 0 where
    tabled : Tabled cs.made
    next : cs.next ≡ first + count

  -- what a work, and a vertex, does to the copies
  abbrev Works : Working → (List ℕ → Fed → Fed) → Type 0
  Works w make = (depth : ℕ) (path : List ℕ) (f : Fed) → AllFine (w.sites depth) → is_good depth w.doing ≡ true → Stand f.copies.next (operations_of w depth) → Tabled f.copies.made
      → Made f.copies.next (length (operations_of w depth)) (make path f).copies

  abbrev Stands : Standing → Vertex → Type 0
  Stands v make = (before after : List Face) (depth : ℕ) (path : List ℕ) (s : Scope) → AllFine (v.sites before after depth)
      → Stand s.copies.next (operations_at (v.sites before after depth)) → Tabled s.copies.made
      → Made s.copies.next (length (operations_at (v.sites before after depth))) (make path s).copies

  tabled_more : (cs : List Copy) (c : Copy) → Tabled cs → slice_get all c.number ≡ Some c.transform → Tabled (cs ++ c ∷ [])
  tabled_more [] c h e = (e, tt)
  tabled_more (d ∷ cs) c h e = (h.0, tabled_more cs c h.1 e)

  stand_left : (n : ℕ) (xs ys : List Transform) → Stand n (xs ++ ys) → Stand n xs
  stand_left n xs ys h k t e = h k t (at_before xs ys k (slice_get_within xs k t e) ∙ e)

  stand_right : (n : ℕ) (xs ys : List Transform) → Stand n (xs ++ ys) → Stand (n + length xs) ys
  stand_right n xs ys h k t e =
      let place : n + (length xs + k) ≡ n + length xs + k = omega arith in
      ap (slice_get all) (sym place) ∙ h (length xs + k) t (at_behind xs ys k ∙ e)

  op_made : (t : Transform) → Works (record { doing = Does t; sites = λ depth. [] }) (λ path f. copied path t f)
  op_made t depth path f fine good stand tabled =
      let here : f.copies.next + 0 ≡ f.copies.next = omega arith in
      let c : Copy = record { path = path; number = f.copies.next; transform = t; inputs = map (λ p. unwrap_or p (length f.copies.made)) f.ports } in
      record { tabled = tabled_more f.copies.made c tabled (ap (slice_get all) (sym here) ∙ stand 0 t refl); next = refl }

  not_bad : (b : Bool) → not b ≡ false → b ≡ true
  not_bad true h = refl
  not_bad false h = cc

  vertex_made : (name : List ℕ) (inputs : List Ref) (w : Working) (make : List ℕ → Fed → Fed) → Works w make
      → Stands (stands name inputs w) (λ path s. bind s.names name (make (path ++ name) (fed_by inputs s)))
  vertex_made name inputs w make h before after depth path s fine stand tabled =
      h depth (path ++ name) (fed_by inputs s) fine.1 (not_bad (is_good depth w.doing) fine.0.good) stand tabled

  abbrev VertexMade : JobVertex → Type 0
  VertexMade v = Stands (standing v) (unroll_vertex v)

  -- the vertices of a body
  body_made : (body : List JobVertex) → Each VertexMade body → (before : List Face) (depth : ℕ) (path : List ℕ) (s : Scope) → AllFine (sites_after before depth (map standing body))
      → Stand s.copies.next (operations_at (sites_after before depth (map standing body))) → Tabled s.copies.made
      → Made s.copies.next (length (operations_at (sites_after before depth (map standing body)))) (each (map (λ v. v path) (map unroll_vertex body)) s).copies
  body_made [] h before depth path s fine stand tabled = record { tabled = tabled; next = omega arith }
  body_made (v ∷ vs) h before depth path s fine stand tabled =
      let after : List Face = faces (standing v ∷ map standing vs) in
      let own : List Site = (standing v).sites before after depth in
      let others : List Site = sites_after (before ++ (standing v).face ∷ []) depth (map standing vs) in
      let split : operations_at (own ++ others) ≡ operations_at own ++ operations_at others = filter_map-append (λ (x : Site). operation_in x.doing) own others in
      let stand_both : Stand s.copies.next (operations_at own ++ operations_at others) = subst (Stand s.copies.next) split stand in
      let first : Made s.copies.next (length (operations_at own)) (unroll_vertex v path s).copies =
      h.0 before after depth path s (fine_left own others fine) (stand_left s.copies.next (operations_at own) (operations_at others) stand_both) tabled in
      let more : Stand (unroll_vertex v path s).copies.next (operations_at others) =
      subst (λ n. Stand n (operations_at others)) (sym first.next) (stand_right s.copies.next (operations_at own) (operations_at others) stand_both) in
      let rest = body_made vs h.1 (before ++ (standing v).face ∷ []) depth path (unroll_vertex v path s) (fine_right own others fine) more first.tabled in
      let size : length (operations_at (own ++ others)) ≡ length (operations_at own) + length (operations_at others) = ap length split ∙ length-append (operations_at own) (operations_at others) in
      let here : (unroll_vertex v path s).copies.next ≡ s.copies.next + length (operations_at own) = first.next in
      let there : (each (map (λ u. u path) (map unroll_vertex vs)) (unroll_vertex v path s)).copies.next ≡ (unroll_vertex v path s).copies.next + length (operations_at others) = rest.next in
      record { tabled = rest.tabled; next = omega arith }

  -- each turn begins again with the number of the first operation
  turns_made : (first count : ℕ) (make : ℕ → Fed → Fed) → ((i : ℕ) (f : Fed) → Tabled f.copies.made → Made first count (make i f).copies)
      → (n i : ℕ) (f : Fed) → Made first count f.copies → Made first count (turns_from i n make f).copies
  turns_made first count make h zero i f made = made
  turns_made first count make h (suc n) i f made = turns_made first count make h n (i + 1) (make i f) (h i f made.tabled)

  loop_made : (turns : ℕ) (carry : List (List ℕ)) (body : List JobVertex) (next : List Ref) → Each VertexMade body
      → Works (record { doing = Loops turns carry (faces (map standing body)) next; sites = λ depth. sites_after (map port_face carry) (depth + 1) (map standing body) })
      (λ path f. turns_from 0 turns (λ i. turn f.copies.next carry (map unroll_vertex body) next (turn_path path i)) f)
  loop_made zero carry body next h depth path f fine good stand tabled = cc
  loop_made (suc n) carry body next h depth path f fine good stand tabled =
      let ss : List Site = sites_after (map port_face carry) (depth + 1) (map standing body) in
      let make : ℕ → Fed → Fed = λ i. turn f.copies.next carry (map unroll_vertex body) next (turn_path path i) in
      let one : (i : ℕ) (g : Fed) → Tabled g.copies.made → Made f.copies.next (length (operations_at ss)) (make i g).copies =
      λ i g known.
      body_made body h (map port_face carry) (depth + 1) (turn_path path i)
      (record { copies = record { made = g.copies.made; next = f.copies.next }; names = bound g.ports carry }) fine stand known in
      turns_made f.copies.next (length (operations_at ss)) make one n (0 + 1) (make 0 f) (one 0 f tabled)

  abbrev WorkMade : Work → Type 0
  WorkMade w = Works (working w) (unroll_work w)

  all_made : (vs : List JobVertex) → Each VertexMade vs
  all_made =
      each_one WorkMade VertexMade
      (λ t. subst (λ w. Works w (unroll_work (Op t))) (sym (op_works t)) (subst (Works (record { doing = Does t; sites = λ depth. [] })) (λ i path f. sym (op_unrolled t path f) i) (op_made t)))
      (λ turns carry body next h.
      subst (λ w. Works w (unroll_work (Loop turns carry body next))) (sym (loop_works turns carry body next))
      (subst (Works (record { doing = Loops turns carry (faces (map standing body)) next; sites = λ depth. sites_after (map port_face carry) (depth + 1) (map standing body) }))
      (λ i path f. sym (loop_unrolled turns carry body next path f) i) (loop_made turns carry body next h)))
      (λ v h.
      subst (λ w. Stands w (unroll_vertex v)) (sym (vertex_stands v))
      (subst (Stands (stands v.name v.inputs (working v.work))) (λ i path s. sym (vertex_unrolled v path s) i) (vertex_made v.name v.inputs (working v.work) (unroll_work v.work) h)))

  one_tabled : (cs : List Copy) (i : ℕ) (c : Copy) → Tabled cs → slice_get cs i ≡ Some c → slice_get all c.number ≡ Some c.transform
  one_tabled [] i c h e = cc
  one_tabled (d ∷ cs) zero c h e = let same : d ≡ c = cc in subst (λ x. slice_get all x.number ≡ Some x.transform) same h.0
  one_tabled (d ∷ cs) (suc i) c h e = one_tabled cs i c h.1 e

on_path : (path : List ℕ) (vs : List JobVertex) → map (λ v. v path) (map unroll_vertex vs) ≡ map (λ v. unroll_vertex v path) vs
on_path path [] = refl
on_path path (v ∷ vs) = ap (λ us. unroll_vertex v path ∷ us) (on_path path vs)

pub table_is : (vs : List JobVertex) → IsJob vs → (i : ℕ) (c : Copy) → slice_get (unrolled vs) i ≡ Some c → slice_get (operations vs) c.number ≡ Some c.transform
table_is vs h i c e =
    let made : Made (operations vs) 0 (length (operations vs)) (each (map (λ v. v []) (map unroll_vertex vs)) at_start).copies =
    body_made (operations vs) vs (all_made (operations vs) vs) [] 0 [] at_start (fine_sites vs h)
    (λ k t is. let none : 0 + k ≡ k = omega arith in ap (slice_get (operations vs)) none ∙ is) tt in
    one_tabled (operations vs) (unrolled vs) i c (subst (λ us. Tabled (operations vs) (each us at_start).copies.made) (on_path [] vs) made.tabled) e
