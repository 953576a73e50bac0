-- The paths of a job's copies fit a text.
use Rattle.std.proofs.Common.{arith, ◌≡◌, sym, subst, ℕ, zero, suc, ◌+◌, ◌*◌, ◌<◌, ◌≤◌, List, [], ◌∷◌, ◌++◌, true, length, map, get_or, decimal, length-append}
use Rattle.std.proofs.lemmas.Fmt.{length-decimal-le_succ}
use Rattle.std.proofs.lemmas.List.Elements.{All-append, All-cons, All-head, All-nil, All-tail}
use Rattle.std.proofs.lemmas.List.Folds.{flat_map-map}
use Rattle.std.specs.List.{All, flat_map}
use Rattle.nemo_transform.specs.declared.transform.Transform.{Transform}
use Rattle.nemo_value.specs.Names.{is_name, name_place}
use Rattle.nemo_job.specs.Mean.{turn_path}
use Rattle.nemo_job.specs.Paths.{paths, vertex_paths}
use Rattle.nemo_job.specs.Refusals.{IsJob, is_good}
use Rattle.nemo_job.specs.Sites.{Face, faces, port_face, sites_after, standing, working}
use Rattle.nemo_job.specs.Unrolled.{path_at}
use Rattle.nemo_job.specs.declared.vertex.JobVertex.{JobVertex}
use Rattle.nemo_job.specs.declared.vertex.Ref.{Ref}
use Rattle.nemo_job.specs.declared.vertex.Work.{Work}
use Rattle.nemo_job.specs.declared.vertex.Work.TheVariants.{Op, Loop}
use Rattle.nemo_job.proofs.ApartTexts.{name_whole}
use Rattle.nemo_job.proofs.CopyPaths.{all_turns, path_is}
use Rattle.nemo_job.proofs.FineBodies.{fine_body, fine_first, fine_rest, fine_vertex, good_loop, good_vertex}
use Rattle.nemo_job.proofs.FineSites.{AllFine, fine_sites}
use Rattle.nemo_job.proofs.Induction.{Each, each_one}
use Rattle.nemo_job.proofs.Layers.{loop_paths, op_path, vertex_path, work_paths}

abbrev IsShort : List ℕ → Type 0
IsShort path = length path ≤ 65535

-- a loop adds at most 67 bytes to a path, and a name 64
abbrev WorkShort : Work → Type 0
WorkShort w = (path : List ℕ) (depth : ℕ) → is_good depth (working w).doing ≡ true → AllFine ((working w).sites depth)
    → depth ≤ 3 → length path ≤ depth * 131 + 64 → All IsShort (work_paths w path)

abbrev VertexShort : JobVertex → Type 0
VertexShort v = (path : List ℕ) (before from : List Face) (depth : ℕ) → AllFine ((standing v).sites before from depth)
    → depth ≤ 3 → length path ≤ depth * 131 → All IsShort (vertex_paths v path)

op_short : (t : Transform) → WorkShort (Op t)
op_short t path depth good fine deep long =
    subst (All IsShort) (sym (op_path t path)) (All-cons IsShort path [] (omega arith) (All-nil IsShort))

all_short : (vs : List JobVertex) → Each VertexShort vs → (path : List ℕ) (before : List Face) (depth : ℕ) → AllFine (sites_after before depth (map standing vs))
    → depth ≤ 3 → length path ≤ depth * 131 → All IsShort (flat_map (λ v. vertex_paths v path) vs)
all_short [] each path before depth fine deep long = All-nil IsShort
all_short (v ∷ vs) each path before depth fine deep long =
    All-append IsShort (vertex_paths v path) (flat_map (λ w. vertex_paths w path) vs)
    (each.0 path before (faces (map standing (v ∷ vs))) depth (fine_first v vs before depth fine) deep long)
    (all_short vs each.1 path (before ++ (standing v).face ∷ []) depth (fine_rest v vs before depth fine) deep long)

turn_size : (path : List ℕ) (i : ℕ) → i < 64 → length (turn_path path i) ≤ length path + 67
turn_size path i l =
    let digits : length (decimal i) ≤ i + 1 = length-decimal-le_succ i (omega arith) in
    omega (arith, length-append (path ++ 91 ∷ [] ++ decimal i) (93 ∷ 47 ∷ []), length-append (path ++ 91 ∷ []) (decimal i), length-append path (91 ∷ []))

loop_short : (turns : ℕ) (carry : List (List ℕ)) (body : List JobVertex) (next : List Ref) → Each VertexShort body → WorkShort (Loop turns carry body next)
loop_short turns carry body next each path depth good fine deep long =
    subst (All IsShort) (sym (loop_paths turns carry body next path))
    (all_turns IsShort 0 turns (λ i. flat_map (λ v. v (turn_path path i)) (map vertex_paths body)) one)
  where
    few : (turns ≤ 64) × (depth < 3)
    few = good_loop turns carry body next depth good

    one : (i : ℕ) → 0 ≤ i → i < 0 + turns → All IsShort (flat_map (λ v. v (turn_path path i)) (map vertex_paths body))
    one i low l =
        let most : turns ≤ 64 = few.0 in
        let deeper : depth < 3 = few.1 in
        let size : length (turn_path path i) ≤ length path + 67 = turn_size path i (omega arith) in
        subst (All IsShort) (sym (flat_map-map (λ v. v (turn_path path i)) vertex_paths body))
        (all_short body each (turn_path path i) (map port_face carry) (depth + 1) (fine_body turns carry body next depth fine) (omega arith) (omega arith))

name_size : (s : List ℕ) → is_name s ≡ true → length s ≤ 64
name_size s h = let is : name_place s ≡ length s = name_whole s h in omega arith

vertex_short : (v : JobVertex) → WorkShort v.work → VertexShort v
vertex_short v work path before from depth fine deep long =
    let f = fine_vertex v before from depth fine in
    let size : length v.name ≤ 64 = name_size v.name f.0.named in
    subst (All IsShort) (sym (vertex_path v path))
    (work (path ++ v.name) depth (good_vertex v before from depth f.0) f.1 deep (omega (arith, length-append path v.name)))

paths_short : (vs : List JobVertex) → IsJob vs → All IsShort (paths vs)
paths_short vs h = all_short vs (each_one WorkShort VertexShort op_short loop_short vertex_short vs) [] [] 0 (fine_sites vs h) (omega arith) (omega arith)

short_at : (ps : List (List ℕ)) (k : ℕ) → All IsShort ps → IsShort (get_or ps k [])
short_at [] k h = omega arith
short_at (p ∷ ps) zero h = All-head IsShort p ps h
short_at (p ∷ ps) (suc k) h = short_at ps k (All-tail IsShort p ps h)

pub short_path : (vs : List JobVertex) → IsJob vs → (k : ℕ) → length (path_at vs k) ≤ 65535
short_path vs h k = subst IsShort (sym (path_is vs k)) (short_at (paths vs) k (paths_short vs h))
