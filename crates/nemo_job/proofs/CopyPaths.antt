-- The paths of a job's copies.
use Rattle.std.proofs.Common.{arith, ◌≡◌, ◌∙◌, refl, sym, ap, ℕ, zero, suc, ◌+◌, ◌<◌, ◌≤◌, List, [], ◌∷◌, ◌++◌, length, map, get_or, slice_get, option_map, unwrap_or, append_assoc, append-nil, Option, Some, None}
use Rattle.std.proofs.lemmas.List.{length-map, map-append}
use Rattle.std.proofs.lemmas.List.Elements.{All-append, All-nil}
use Rattle.std.proofs.lemmas.List.Folds.{flat_map-map}
use Rattle.std.proofs.lemmas.Option.{slice_get-map, unwrap_or-slice_get}
use Rattle.std.specs.List.{All, flat_map}
use Rattle.nemo_transform.specs.declared.transform.Transform.{Transform}
use Rattle.nemo_value.proofs.JoinedLists.{map_map}
use Rattle.nemo_job.specs.Mean.{turn_path, turns_from}
use Rattle.nemo_job.specs.Paths.{each_turn, paths, vertex_paths}
use Rattle.nemo_job.specs.Unrolled.{Copies, Copy, Fed, Scope, at_start, bound, each, fed_by, path_at, path_or, turn, unroll_all, unroll_vertex, unroll_work, unrolled}
use Rattle.nemo_job.specs.declared.vertex.JobVertex.{JobVertex}
use Rattle.nemo_job.specs.declared.vertex.Ref.{Ref}
use Rattle.nemo_job.specs.declared.vertex.Work.{Work}
use Rattle.nemo_job.specs.declared.vertex.Work.TheVariants.{Op, Loop}
use Rattle.nemo_job.proofs.Induction.{Each, each_one}
use Rattle.nemo_job.proofs.Layers.{loop_paths, loop_unrolled, op_path, op_unrolled, vertex_path, vertex_unrolled, work_paths}

-- the paths of the copies so far
abbrev made_paths : Copies → List (List ℕ)
made_paths c = map (λ m. m.path) c.made

-- what a work adds to the copies has its paths
abbrev WorkAdds : Work → Type 0
WorkAdds w = (path : List ℕ) (f : Fed) → made_paths (unroll_work w path f).copies ≡ made_paths f.copies ++ work_paths w path

abbrev VertexAdds : JobVertex → Type 0
VertexAdds v = (path : List ℕ) (s : Scope) → made_paths (unroll_vertex v path s).copies ≡ made_paths s.copies ++ vertex_paths v path

op_adds : (t : Transform) → WorkAdds (Op t)
op_adds t path f =
    ap (λ g. made_paths g.copies) (op_unrolled t path f)
    ∙ map-append (λ (c : Copy). c.path) f.copies.made _
    ∙ ap (λ ps. made_paths f.copies ++ ps) (sym (op_path t path))

-- the vertices of a list, one by one
each_adds : (vs : List JobVertex) (path : List ℕ) (s : Scope) → Each VertexAdds vs
    → made_paths (unroll_all vs path s).copies ≡ made_paths s.copies ++ flat_map (λ v. vertex_paths v path) vs
each_adds [] path s h = sym (append-nil (made_paths s.copies))
each_adds (v ∷ vs) path s h =
    each_adds vs path (unroll_vertex v path s) h.1
    ∙ ap (λ ps. ps ++ flat_map (λ w. vertex_paths w path) vs) (h.0 path s)
    ∙ append_assoc (made_paths s.copies) (vertex_paths v path) (flat_map (λ w. vertex_paths w path) vs)

-- the turns of a loop, one by one
turns_add : (i n : ℕ) (step : ℕ → Fed → Fed) (body : ℕ → List (List ℕ)) (f : Fed)
    → ((j : ℕ) (g : Fed) → made_paths (step j g).copies ≡ made_paths g.copies ++ body j)
    → made_paths (turns_from i n step f).copies ≡ made_paths f.copies ++ each_turn i n body
turns_add i zero step body f h = sym (append-nil (made_paths f.copies))
turns_add i (suc n) step body f h =
    turns_add (i + 1) n step body (step i f) h
    ∙ ap (λ ps. ps ++ each_turn (i + 1) n body) (h i f)
    ∙ append_assoc (made_paths f.copies) (body i) (each_turn (i + 1) n body)

loop_adds : (turns : ℕ) (carry : List (List ℕ)) (body : List JobVertex) (next : List Ref) → Each VertexAdds body → WorkAdds (Loop turns carry body next)
loop_adds turns carry body next h path f =
    ap (λ g. made_paths g.copies) (loop_unrolled turns carry body next path f)
    ∙ turns_add 0 turns (λ i. turn f.copies.next carry (map unroll_vertex body) next (turn_path path i))
    (λ i. flat_map (λ v. v (turn_path path i)) (map vertex_paths body)) f one
    ∙ ap (λ ps. made_paths f.copies ++ ps) (sym (loop_paths turns carry body next path))
  where
    one : (i : ℕ) (g : Fed) → made_paths (turn f.copies.next carry (map unroll_vertex body) next (turn_path path i) g).copies
        ≡ made_paths g.copies ++ flat_map (λ v. v (turn_path path i)) (map vertex_paths body)
    one i g =
        let p : List ℕ = turn_path path i in
        let s : Scope = record { copies = record { made = g.copies.made; next = f.copies.next }; names = bound g.ports carry } in
        ap (λ vs. made_paths (each vs s).copies) (map_map (λ v. v p) unroll_vertex body)
        ∙ each_adds body p s h
        ∙ ap (λ ps. made_paths g.copies ++ ps) (sym (flat_map-map (λ v. v p) vertex_paths body))

vertex_adds : (v : JobVertex) → WorkAdds v.work → VertexAdds v
vertex_adds v h path s =
    ap (λ t. made_paths t.copies) (vertex_unrolled v path s)
    ∙ h (path ++ v.name) (fed_by v.inputs s)
    ∙ ap (λ ps. made_paths s.copies ++ ps) (sym (vertex_path v path))

-- the copies of a job have its paths
pub paths_unrolled : (vs : List JobVertex) → map (λ c. c.path) (unrolled vs) ≡ paths vs
paths_unrolled vs = each_adds vs [] at_start (each_one WorkAdds VertexAdds op_adds loop_adds vertex_adds vs)

pub paths_size : (vs : List JobVertex) → length (paths vs) ≡ length (unrolled vs)
paths_size vs = ap length (sym (paths_unrolled vs)) ∙ length-map (unrolled vs) (λ c. c.path)

or_empty : (o : Option Copy) → path_or o ≡ unwrap_or (option_map (λ (c : Copy). c.path) o) []
or_empty None = refl
or_empty (Some c) = refl

-- the path of the copy of a place
pub path_is : (vs : List JobVertex) (k : ℕ) → path_at vs k ≡ get_or (paths vs) k []
path_is vs k =
    or_empty (slice_get (unrolled vs) k)
    ∙ ap (λ o. unwrap_or o []) (sym (slice_get-map (λ (c : Copy). c.path) (unrolled vs) k))
    ∙ ap (λ ps. unwrap_or (slice_get ps k) []) (paths_unrolled vs)
    ∙ unwrap_or-slice_get (paths vs) k []

-- what holds at each turn
pub all_turns : (P : List ℕ → Type 0) (i n : ℕ) (body : ℕ → List (List ℕ)) → ((j : ℕ) → i ≤ j → j < i + n → All P (body j)) → All P (each_turn i n body)
all_turns P i zero body h = All-nil P
all_turns P i (suc n) body h =
    All-append P (body i) (each_turn (i + 1) n body) (h i (omega arith) (omega arith))
    (all_turns P (i + 1) n body (λ j low high. h j (omega arith) (omega arith)))
