-- What holds at a vertex where nothing is refused, and in the body of its loop.
use Rattle.std.proofs.Common.{◌≡◌, ◌∙◌, refl, ap, subst, ℕ, ◌+◌, ◌<◌, ◌≤◌, ◌==◌, ◌&&◌, List, [], ◌∷◌, ◌++◌, Bool, true, not, length, map, nat_le, nat_lt}
use Rattle.std.proofs.lemmas.Bool.{leb-true, ltb-true, not-false}
use Rattle.std.specs.Cmp.{first_so, second_so}
use Rattle.std.specs.List.{list_any}
use Rattle.nemo_transform.specs.Soundness.{is_few}
use Rattle.nemo_job.specs.Refusals.{is_end, is_good}
use Rattle.nemo_job.specs.Sites.{Doing, Does, Face, Loops, Site, face_of, faces, port_face, sites_after, standing, working}
use Rattle.nemo_job.specs.declared.vertex.JobVertex.{JobVertex}
use Rattle.nemo_job.specs.declared.vertex.Ref.{Ref}
use Rattle.nemo_job.specs.declared.vertex.Work.TheVariants.{Loop}
use Rattle.nemo_job.proofs.FineSites.{AllFine, IsFine, fine_left, fine_right}
use Rattle.nemo_job.proofs.Layers.{loop_works, vertex_stands}

-- where a vertex itself stands
abbrev pub site_of : JobVertex → List Face → List Face → ℕ → Site
site_of v before from depth = record { before = before; from = from; depth = depth; name = v.name; inputs = v.inputs; doing = (working v.work).doing }

pub fine_vertex : (v : JobVertex) (before from : List Face) (depth : ℕ) → AllFine ((standing v).sites before from depth)
    → IsFine (site_of v before from depth) × AllFine ((working v.work).sites depth)
fine_vertex v before from depth h = subst (λ s. AllFine (s.sites before from depth)) (vertex_stands v) h

face_named : (name : List ℕ) (d : Doing) → (face_of name d).name ≡ name
face_named name (Does t) = refl
face_named name (Loops turns carry body next) = refl

pub face_name : (v : JobVertex) → (standing v).face.name ≡ v.name
face_name v = ap (λ s. s.face.name) (vertex_stands v) ∙ face_named v.name (working v.work).doing

pub good_vertex : (v : JobVertex) (before from : List Face) (depth : ℕ) → IsFine (site_of v before from depth) → is_good depth (working v.work).doing ≡ true
good_vertex v before from depth h = not-false (is_good depth (working v.work).doing) h.good

module _ (v : JobVertex) (vs : List JobVertex) (before : List Face) (depth : ℕ) (fine : AllFine (sites_after before depth (map standing (v ∷ vs)))) where
  pub fine_first : AllFine ((standing v).sites before (faces (map standing (v ∷ vs))) depth)
  fine_first =
      fine_left ((standing v).sites before (faces (map standing (v ∷ vs))) depth) (sites_after (before ++ (standing v).face ∷ []) depth (map standing vs)) fine

  pub fine_rest : AllFine (sites_after (before ++ (standing v).face ∷ []) depth (map standing vs))
  fine_rest =
      fine_right ((standing v).sites before (faces (map standing (v ∷ vs))) depth) (sites_after (before ++ (standing v).face ∷ []) depth (map standing vs)) fine

module _ (turns : ℕ) (carry : List (List ℕ)) (body : List JobVertex) (next : List Ref) (depth : ℕ) where
  pub fine_body : AllFine ((working (Loop turns carry body next)).sites depth) → AllFine (sites_after (map port_face carry) (depth + 1) (map standing body))
  fine_body h = subst (λ w. AllFine (w.sites depth)) (loop_works turns carry body next) h

  pub good_loop : is_good depth (working (Loop turns carry body next)).doing ≡ true → (turns ≤ 64) × (depth < 3)
  good_loop h =
      let e : is_good depth (Loops turns carry (faces (map standing body)) next) ≡ true =
      subst (λ w. is_good depth w.doing ≡ true) (loop_works turns carry body next) h in
      let a : Bool = nat_le 1 turns && nat_le turns 64 in
      let b : Bool = a && is_few (length carry) in
      let c : Bool = b && length next == length carry in
      let d : Bool = c && nat_lt depth 3 in
      let to_depth : d ≡ true = first_so d (not (list_any (λ f. is_end f.transform) (faces (map standing body)))) e in
      let to_turns : a ≡ true = first_so a (is_few (length carry)) (first_so b (length next == length carry) (first_so c (nat_lt depth 3) to_depth)) in
      (leb-true turns 64 (second_so (nat_le 1 turns) (nat_le turns 64) to_turns), ltb-true depth 3 (second_so c (nat_lt depth 3) to_depth))
