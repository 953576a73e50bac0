-- The paths of a job's copies all differ.
use Rattle.std.proofs.Common.{arith, ◌≡◌, ◌∙◌, refl, sym, ap, subst, ℕ, zero, suc, ◌+◌, ◌<◌, ◌≤◌, List, [], ◌∷◌, ◌++◌, true, false, length, map, unwrap_or, decimal, append_assoc, append-nil}
use Rattle.std.proofs.lemmas.Bool.{or_parts, true≢false}
use Rattle.std.proofs.lemmas.Fmt.{decimal_injective}
use Rattle.std.proofs.lemmas.List.Elements.{All-append, All-cons, All-nil, All-weaker}
use Rattle.std.proofs.lemmas.List.Folds.{flat_map-map, list_any-append}
use Rattle.std.specs.List.{All, flat_map, list_any}
use Rattle.nemo_transform.specs.declared.transform.Transform.{Transform}
use Rattle.nemo_value.specs.Texts.{all_new, same_text}
use Rattle.nemo_job.specs.Mean.{turn_path}
use Rattle.nemo_job.specs.Paths.{each_turn, paths, vertex_paths}
use Rattle.nemo_job.specs.Refusals.{IsJob, has_double, has_name, is_good}
use Rattle.nemo_job.specs.Sinks.{place_of}
use Rattle.nemo_job.specs.Sites.{Face, faces, port_face, sites_after, standing, working}
use Rattle.nemo_job.specs.Unrolled.{path_at, unrolled}
use Rattle.nemo_job.specs.declared.vertex.JobVertex.{JobVertex}
use Rattle.nemo_job.specs.declared.vertex.Ref.{Ref}
use Rattle.nemo_job.specs.declared.vertex.Work.{Work}
use Rattle.nemo_job.specs.declared.vertex.Work.TheVariants.{Op, Loop}
use Rattle.nemo_job.proofs.ApartTexts.{Apart, Begins, Differs, IsWord, all_new_from, apart_by, decimal_word, name_word, position_at, text_itself, word_after, word_is}
use Rattle.nemo_job.proofs.CopyPaths.{all_turns, path_is, paths_size}
use Rattle.nemo_job.proofs.FineBodies.{face_name, fine_body, fine_first, fine_rest, fine_vertex, good_loop, good_vertex}
use Rattle.nemo_job.proofs.FineSites.{AllFine, fine_sites}
use Rattle.nemo_job.proofs.Induction.{Each, each_one, each_vertex}
use Rattle.nemo_job.proofs.Layers.{loop_paths, op_path, vertex_path, work_paths}

---- what each path begins with

-- that of the work, and then no byte of a name
abbrev WorkBegins : Work → Type 0
WorkBegins w = (path : List ℕ) → All (Begins path) (work_paths w path)

abbrev VertexBegins : JobVertex → Type 0
VertexBegins v = (path : List ℕ) → All (Begins (path ++ v.name)) (vertex_paths v path)

-- some text comes after this
abbrev Under : List ℕ → List ℕ → Type 0
Under front text = (rest : List ℕ) × (text ≡ front ++ rest)

op_begins : (t : Transform) → WorkBegins (Op t)
op_begins t path = subst (All (Begins path)) (sym (op_path t path)) (All-cons (Begins path) path [] ([], sym (append-nil path), refl) (All-nil (Begins path)))

all_under : (vs : List JobVertex) → Each VertexBegins vs → (path : List ℕ) → All (Under path) (flat_map (λ v. vertex_paths v path) vs)
all_under [] each path = All-nil (Under path)
all_under (v ∷ vs) each path =
    All-append (Under path) (vertex_paths v path) (flat_map (λ w. vertex_paths w path) vs)
    (All-weaker (Begins (path ++ v.name)) (Under path) (λ text b. (v.name ++ b.0, b.1 ∙ append_assoc path v.name b.0)) (vertex_paths v path) (each.0 path))
    (all_under vs each.1 path)

turn_parts : (path : List ℕ) (i : ℕ) (rest : List ℕ) → turn_path path i ++ rest ≡ (path ++ 91 ∷ [] ++ decimal i) ++ 93 ∷ 47 ∷ rest
turn_parts path i rest = append_assoc (path ++ 91 ∷ [] ++ decimal i) (93 ∷ 47 ∷ []) rest

-- a bracket comes after the path of the loop
turn_begins : (path : List ℕ) (i : ℕ) (text : List ℕ) → Under (turn_path path i) text → Begins path text
turn_begins path i text u =
    let rest : List ℕ = decimal i ++ 93 ∷ 47 ∷ u.0 in
    (91 ∷ rest, u.1 ∙ turn_parts path i u.0 ∙ append_assoc (path ++ 91 ∷ []) (decimal i) (93 ∷ 47 ∷ u.0) ∙ append_assoc path (91 ∷ []) rest, refl)

loop_begins : (turns : ℕ) (carry : List (List ℕ)) (body : List JobVertex) (next : List Ref) → Each VertexBegins body → WorkBegins (Loop turns carry body next)
loop_begins turns carry body next each path =
    subst (All (Begins path)) (sym (loop_paths turns carry body next path))
    (all_turns (Begins path) 0 turns (λ i. flat_map (λ v. v (turn_path path i)) (map vertex_paths body)) one)
  where
    one : (i : ℕ) → 0 ≤ i → i < 0 + turns → All (Begins path) (flat_map (λ v. v (turn_path path i)) (map vertex_paths body))
    one i low high =
        let p : List ℕ = turn_path path i in
        subst (All (Begins path)) (sym (flat_map-map (λ v. v p) vertex_paths body))
        (All-weaker (Under p) (Begins path) (turn_begins path i) (flat_map (λ v. vertex_paths v p) body) (all_under body each p))

vertex_begins : (v : JobVertex) → WorkBegins v.work → VertexBegins v
vertex_begins v work path = subst (All (Begins (path ++ v.name))) (sym (vertex_path v path)) (work (path ++ v.name))

begins : (v : JobVertex) → VertexBegins v
begins = each_vertex WorkBegins VertexBegins op_begins loop_begins vertex_begins

turn_under : (body : List JobVertex) (path : List ℕ) → All (Under path) (flat_map (λ v. vertex_paths v path) body)
turn_under body path = all_under body (each_one WorkBegins VertexBegins op_begins loop_begins vertex_begins body) path

---- the vertices of a list

named_after : (v : JobVertex) (path : List ℕ) → IsWord v.name → All (λ p. word_after path p ≡ v.name) (vertex_paths v path)
named_after v path is =
    All-weaker (Begins (path ++ v.name)) (λ p. word_after path p ≡ v.name) (λ p. word_is path v.name p is) (vertex_paths v path) (begins v path)

both_new : (before more : List Face) (name : List ℕ) → list_any (has_name name) (before ++ more) ≡ false
    → (list_any (has_name name) before ≡ false) × (list_any (has_name name) more ≡ false)
both_new before more name new = or_parts (list_any (has_name name) before) (list_any (has_name name) more) (sym (list_any-append (has_name name) before more) ∙ new)

-- a name that stands before is no new one
abbrev Sees : List ℕ → List Face → Type 0
Sees name before = (other : List ℕ) → list_any (has_name other) before ≡ false → Differs name other

sees_more : (name : List ℕ) (before more : List Face) → Sees name before → Sees name (before ++ more)
sees_more name before more h other new = h other (both_new before more other new).0

sees_last : (before : List Face) (v : JobVertex) → Sees v.name (before ++ (standing v).face ∷ [])
sees_last before v other new e =
    let face : Face = (standing v).face in
    let last : has_name other face ≡ false = (or_parts (has_name other face) false (both_new before (face ∷ []) other new).1).0 in
    true≢false (sym (ap (λ n. same_text n other) (face_name v ∙ e) ∙ text_itself other) ∙ last)

later_differ : (name : List ℕ) (vs : List JobVertex) (path : List ℕ) (before : List Face) (depth : ℕ) → Sees name before
    → AllFine (sites_after before depth (map standing vs)) → All (λ p. Differs name (word_after path p)) (flat_map (λ v. vertex_paths v path) vs)
later_differ name [] path before depth sees fine = All-nil (λ p. Differs name (word_after path p))
later_differ name (v ∷ vs) path before depth sees fine =
    let more : List Face = (standing v).face ∷ [] in
    let f = fine_vertex v before (faces (map standing (v ∷ vs))) depth (fine_first v vs before depth fine) in
    let other : Differs name v.name = sees v.name (or_parts (list_any (has_name v.name) before) (has_double (working v.work).doing) f.0.single).0 in
    All-append (λ p. Differs name (word_after path p)) (vertex_paths v path) (flat_map (λ w. vertex_paths w path) vs)
    (All-weaker (λ p. word_after path p ≡ v.name) (λ p. Differs name (word_after path p)) (λ p e s. other (s ∙ e)) (vertex_paths v path)
    (named_after v path (name_word v.name f.0.named)))
    (later_differ name vs path (before ++ more) depth (sees_more name before more sees) (fine_rest v vs before depth fine))

---- all differ

abbrev WorkApart : Work → Type 0
WorkApart w = (path : List ℕ) (depth : ℕ) → is_good depth (working w).doing ≡ true → AllFine ((working w).sites depth) → Apart (work_paths w path)

abbrev VertexApart : JobVertex → Type 0
VertexApart v = (path : List ℕ) (before from : List Face) (depth : ℕ) → AllFine ((standing v).sites before from depth) → Apart (vertex_paths v path)

op_apart : (t : Transform) → WorkApart (Op t)
op_apart t path depth good fine = subst Apart (sym (op_path t path)) (All-nil (Differs path), tt)

all_apart : (vs : List JobVertex) → Each VertexApart vs → (path : List ℕ) (before : List Face) (depth : ℕ) → AllFine (sites_after before depth (map standing vs))
    → Apart (flat_map (λ v. vertex_paths v path) vs)
all_apart [] each path before depth fine = tt
all_apart (v ∷ vs) each path before depth fine =
    let here : List Face = faces (map standing (v ∷ vs)) in
    let rest : List Face = before ++ (standing v).face ∷ [] in
    let f = fine_vertex v before here depth (fine_first v vs before depth fine) in
    apart_by (word_after path) v.name (vertex_paths v path) (flat_map (λ w. vertex_paths w path) vs)
    (each.0 path before here depth (fine_first v vs before depth fine))
    (all_apart vs each.1 path rest depth (fine_rest v vs before depth fine))
    (named_after v path (name_word v.name f.0.named))
    (later_differ v.name vs path rest depth (sees_last before v) (fine_rest v vs before depth fine))

module _ (path : List ℕ) (body : ℕ → List (List ℕ)) (apart : (j : ℕ) → j < 64 → Apart (body j))
    (under : (j : ℕ) → All (Under (turn_path path j)) (body j)) where
  abbrev front : List ℕ
  front = path ++ 91 ∷ []

  -- the turn's number comes after the bracket
  turn_numbered : (j : ℕ) → j < 64 → All (λ p. word_after front p ≡ decimal j) (body j)
  turn_numbered j low = All-weaker (Under (turn_path path j)) (λ p. word_after front p ≡ decimal j) one (body j) (under j)
    where
      one : (p : List ℕ) → Under (turn_path path j) p → word_after front p ≡ decimal j
      one p u = word_is front (decimal j) p (decimal_word j (omega arith)) (93 ∷ 47 ∷ u.0, u.1 ∙ turn_parts path j u.0, refl)

  turns_apart : (i n : ℕ) → i + n ≤ 64 → Apart (each_turn i n body)
  turns_apart i zero few = tt
  turns_apart i (suc n) few =
      apart_by (word_after front) (decimal i) (body i) (each_turn (i + 1) n body) (apart i (omega arith)) (turns_apart (i + 1) n (omega arith))
      (turn_numbered i (omega arith))
      (all_turns (λ p. Differs (decimal i) (word_after front p)) (i + 1) n body later)
    where
      later : (j : ℕ) → i + 1 ≤ j → j < i + 1 + n → All (λ p. Differs (decimal i) (word_after front p)) (body j)
      later j low high =
          All-weaker (λ p. word_after front p ≡ decimal j) (λ p. Differs (decimal i) (word_after front p)) other (body j) (turn_numbered j (omega arith))
        where
          other : (p : List ℕ) → word_after front p ≡ decimal j → Differs (decimal i) (word_after front p)
          other p e s = let same : i ≡ j = decimal_injective i j (omega arith) (omega arith) (s ∙ e) in omega arith

loop_apart : (turns : ℕ) (carry : List (List ℕ)) (body : List JobVertex) (next : List Ref) → Each VertexApart body → WorkApart (Loop turns carry body next)
loop_apart turns carry body next each path depth good fine =
    subst Apart (sym (loop_paths turns carry body next path))
    (turns_apart path (λ i. flat_map (λ v. v (turn_path path i)) (map vertex_paths body)) one under 0 turns (omega (arith, few)))
  where
    few : turns ≤ 64
    few = (good_loop turns carry body next depth good).0

    each_path : (i : ℕ) → flat_map (λ v. vertex_paths v (turn_path path i)) body ≡ flat_map (λ v. v (turn_path path i)) (map vertex_paths body)
    each_path i = sym (flat_map-map (λ v. v (turn_path path i)) vertex_paths body)

    one : (i : ℕ) → i < 64 → Apart (flat_map (λ v. v (turn_path path i)) (map vertex_paths body))
    one i low =
        subst Apart (each_path i) (all_apart body each (turn_path path i) (map port_face carry) (depth + 1) (fine_body turns carry body next depth fine))

    under : (i : ℕ) → All (Under (turn_path path i)) (flat_map (λ v. v (turn_path path i)) (map vertex_paths body))
    under i = subst (All (Under (turn_path path i))) (each_path i) (turn_under body (turn_path path i))

vertex_apart : (v : JobVertex) → WorkApart v.work → VertexApart v
vertex_apart v work path before from depth fine =
    let f = fine_vertex v before from depth fine in
    subst Apart (sym (vertex_path v path)) (work (path ++ v.name) depth (good_vertex v before from depth f.0) f.1)

pub paths_apart : (vs : List JobVertex) → IsJob vs → Apart (paths vs)
paths_apart vs h = all_apart vs (each_one WorkApart VertexApart op_apart loop_apart vertex_apart vs) [] [] 0 (fine_sites vs h)

pub paths_differ : (vs : List JobVertex) → IsJob vs → all_new [] (paths vs) ≡ true
paths_differ vs h = all_new_from (paths vs) (paths_apart vs h)

-- the place of a path is that of the copy that has it
pub place_of_copy : (vs : List JobVertex) → IsJob vs → (k : ℕ) → k < length (unrolled vs) → place_of (paths vs) (path_at vs k) ≡ k
place_of_copy vs h k l =
    ap (place_of (paths vs)) (path_is vs k)
    ∙ ap (λ o. unwrap_or o 0) (position_at (paths vs) k [] (paths_apart vs h) (subst (λ n. k < n) (sym (paths_size vs)) l))
