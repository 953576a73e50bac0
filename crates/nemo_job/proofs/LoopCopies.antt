-- The copies that a loop adds are no sinks.
use Rattle.std.proofs.Common.{◌≡◌, ◌∙◌, refl, sym, ap, subst, ℕ, ◌+◌, List, [], ◌∷◌, ◌++◌, map, not, Bool, true, false, ◌&&◌, Some, true≢false, nat_le, nat_lt, length, ◌==◌, append_assoc}
use Rattle.std.proofs.lemmas.Bool.{or_parts}
use Rattle.std.proofs.lemmas.List.{append-nil}
use Rattle.std.specs.List.{list_any}
use Rattle.nemo_transform.specs.Soundness.{is_few}
use Rattle.nemo_transform.specs.declared.transform.Transform.{Transform}
use Rattle.nemo_transform.specs.declared.transform.Transform.TheVariants.{Sink}
use Rattle.nemo_transform.specs.Sinks.{does_sink}
use Rattle.nemo_job.specs.Mean.{turn_path}
use Rattle.nemo_job.specs.Refusals.{is_end, is_good}
use Rattle.nemo_job.specs.Sites.{Doing, Does, Loops, Face, face_of, faces, port_face, sites_after, standing, working}
use Rattle.nemo_job.specs.Unrolled.{Copy, Fed, Scope, fed_by, unroll_all, unroll_vertex, unroll_work}
use Rattle.nemo_job.specs.declared.vertex.JobVertex.{JobVertex}
use Rattle.nemo_job.specs.declared.vertex.Ref.{Ref}
use Rattle.nemo_job.specs.declared.vertex.Work.{Work}
use Rattle.nemo_job.specs.declared.vertex.Work.TheVariants.{Op, Loop}
use Rattle.nemo_job.proofs.FineSites.{AllFine, fine_left, fine_right}
use Rattle.nemo_job.proofs.Growing.{copy_of, turn_of, turn_start, turns_keep, turns_unrolled}
use Rattle.nemo_job.proofs.Induction.{Each, each_work}
use Rattle.nemo_job.proofs.Layers.{loop_works, op_unrolled, op_works, vertex_stands, vertex_unrolled}

abbrev pub NoSinks : List Copy → Type 0
NoSinks [] = Unit {0}
NoSinks (c ∷ cs) = (does_sink c.transform ≡ false) × NoSinks cs

both_none : (xs ys : List Copy) → NoSinks xs → NoSinks ys → NoSinks (xs ++ ys)
both_none [] ys g h = h
both_none (x ∷ xs) ys g h = (g.0, both_none xs ys g.1 h)

-- copies were added, and none of them is a sink
abbrev pub AddsNone : List Copy → List Copy → Type 0
AddsNone old new = (more : List Copy) × (new ≡ old ++ more) × NoSinks more

adds_nothing : (cs : List Copy) → AddsNone cs cs
adds_nothing cs = ([], sym (append-nil cs), tt)

adds_then : (a b c : List Copy) → AddsNone a b → AddsNone b c → AddsNone a c
adds_then a b c g h = (g.0 ++ h.0, h.1 ∙ ap (λ l. l ++ h.0) g.1 ∙ append_assoc a g.0 h.0, both_none g.0 h.0 g.2 h.2)

-- whether some of a list are sources or sinks
abbrev pub any_end : List Face → Bool
any_end fs = list_any (λ f. is_end f.transform) fs

-- an operation that may stand in a body, or a loop of such ones
abbrev pub Within : Doing → Type 0
Within (Does t) = is_end (Some t) ≡ false
Within (Loops turns carry body next) = any_end body ≡ false

abbrev pub WorkAdds : Work → Type 0
WorkAdds w = (depth : ℕ) → AllFine ((working w).sites depth) → Within (working w).doing
    → (path : List ℕ) (f : Fed) → AddsNone f.copies.made (unroll_work w path f).copies.made

abbrev pub VertexAdds : JobVertex → Type 0
VertexAdds v = (before from : List Face) (depth : ℕ) → AllFine ((standing v).sites before from depth) → is_end (standing v).face.transform ≡ false
    → (path : List ℕ) (s : Scope) → AddsNone s.copies.made (unroll_vertex v path s).copies.made

body_adds : (vs : List JobVertex) → Each VertexAdds vs → (before : List Face) (depth : ℕ)
    → AllFine (sites_after before depth (map standing vs)) → any_end (faces (map standing vs)) ≡ false → (path : List ℕ) (s : Scope) → AddsNone s.copies.made (unroll_all vs path s).copies.made
body_adds [] h before depth fine none path s = adds_nothing s.copies.made
body_adds (v ∷ vs) h before depth fine none path s =
    let from = faces (map standing (v ∷ vs)) in
    let after = before ++ (standing v).face ∷ [] in
    let here = (standing v).sites before from depth in
    let later = sites_after after depth (map standing vs) in
    let ends = or_parts (is_end (standing v).face.transform) (any_end (faces (map standing vs))) none in
    let t = unroll_vertex v path s in
    adds_then s.copies.made t.copies.made (unroll_all vs path t).copies.made
    (h.0 before from depth (fine_left here later fine) ends.0 path s)
    (body_adds vs h.1 after depth (fine_right here later fine) ends.1 path t)

no_sink : (t : Transform) → is_end (Some t) ≡ false → does_sink t ≡ false
no_sink (Sink name) h = absurd (true≢false h)
no_sink _ h = refl

op_adds : (t : Transform) → WorkAdds (Op t)
op_adds t depth fine within path f =
    let no_end : is_end (Some t) ≡ false = subst (λ w. Within w.doing) (op_works t) within in
    subst (λ g. AddsNone f.copies.made g.copies.made) (sym (op_unrolled t path f)) (copy_of path t f ∷ [], refl, (no_sink t no_end, tt))

loop_adds : (turns : ℕ) (carry : List (List ℕ)) (body : List JobVertex) (next : List Ref) → Each VertexAdds body → WorkAdds (Loop turns carry body next)
loop_adds turns carry body next h depth fine within path f =
    let first = f.copies.next in
    let fine_body : AllFine (sites_after (map port_face carry) (depth + 1) (map standing body)) =
    subst (λ w. AllFine (w.sites depth)) (loop_works turns carry body next) fine in
    let no_end : any_end (faces (map standing body)) ≡ false = subst (λ w. Within w.doing) (loop_works turns carry body next) within in
    subst (λ g. AddsNone f.copies.made g.copies.made) (sym (turns_unrolled turns carry body next path f))
    (turns_keep (λ g. AddsNone f.copies.made g.copies.made) (λ i. turn_of first carry body next (turn_path path i))
    (λ i g p. adds_then f.copies.made g.copies.made (unroll_all body (turn_path path i) (turn_start first carry g)).copies.made p
    (body_adds body h (map port_face carry) (depth + 1) fine_body no_end (turn_path path i) (turn_start first carry g)))
    0 turns f (adds_nothing f.copies.made))

-- a good loop has no source or sink in its body
good_body : (depth turns : ℕ) (carry : List (List ℕ)) (body : List Face) (next : List Ref) → not (is_good depth (Loops turns carry body next)) ≡ false → any_end body ≡ false
good_body depth turns carry body next h = go (nat_le 1 turns && nat_le turns 64 && is_few (length carry) && length next == length carry && nat_lt depth 3) (any_end body) h
  where
    go : (a b : Bool) → not (a && not b) ≡ false → b ≡ false
    go true true h = absurd (true≢false h)
    go false true h = absurd (true≢false h)
    go a false h = refl

good_within : (depth : ℕ) (name : List ℕ) (d : Doing) → not (is_good depth d) ≡ false → is_end (face_of name d).transform ≡ false → Within d
good_within depth name (Does t) good none = none
good_within depth name (Loops turns carry body next) good none = good_body depth turns carry body next good

vertex_then : (v : JobVertex) → WorkAdds v.work → VertexAdds v
vertex_then v h before from depth fine none path s =
    let here = subst (λ st. AllFine (st.sites before from depth)) (vertex_stands v) fine in
    let no_end = subst (λ st. is_end st.face.transform ≡ false) (vertex_stands v) none in
    subst (λ t. AddsNone s.copies.made t.copies.made) (sym (vertex_unrolled v path s))
    (h depth here.1 (good_within depth v.name (working v.work).doing here.0.good no_end) (path ++ v.name) (fed_by v.inputs s))

-- of a loop whose sites are fine
pub loop_adds_none : (turns : ℕ) (carry : List (List ℕ)) (body : List JobVertex) (next : List Ref) (depth : ℕ)
    → AllFine ((working (Loop turns carry body next)).sites depth) → not (is_good depth (working (Loop turns carry body next)).doing) ≡ false
    → (path : List ℕ) (f : Fed) → AddsNone f.copies.made (unroll_work (Loop turns carry body next) path f).copies.made
loop_adds_none turns carry body next depth fine good =
    let w = Loop turns carry body next in
    let good_loop = subst (λ x. not (is_good depth x.doing) ≡ false) (loop_works turns carry body next) good in
    let no_end = good_body depth turns carry (faces (map standing body)) next good_loop in
    each_work WorkAdds VertexAdds op_adds loop_adds vertex_then w depth fine (subst (λ x. Within x.doing) (sym (loop_works turns carry body next)) no_end)
