-- The names of a flat job differ, and hold neither a space nor a newline.
use Rattle.std.proofs.Common.{arith, ◌≡◌, ◌∙◌, refl, sym, ap, subst, ℕ, suc, ◌+◌, ◌<◌, ◌≤◌, ◌⊎◌, inl, inr, ◌^◌, ◌==◌, ◌||◌, not, List, [], ◌∷◌, ◌++◌, Bool, true, false, cond, length, map, decimal, true≢false}
use Rattle.std.proofs.lemmas.Bool.{and_from}
use Rattle.std.proofs.lemmas.Bool.Decides.{eqb_tells}
use Rattle.std.proofs.lemmas.List.Elements.{All-append, All-cons, All-head, All-nil, All-tail}
use Rattle.std.proofs.lemmas.List.Folds.{flat_map-map, list_all-append}
use Rattle.std.specs.List.{All, flat_map, list_all, prefix_len}
use Rattle.nemo_value.specs.Names.{is_name_byte}
use Rattle.nemo_value.specs.Texts.{all_new}
use Rattle.nemo_transform.specs.declared.transform.Transform.{Transform}
use Rattle.nemo_job.specs.Mean.{turn_path}
use Rattle.nemo_job.specs.Paths.{paths, vertex_paths}
use Rattle.nemo_job.specs.Refusals.{IsJob, is_good}
use Rattle.nemo_job.specs.Sites.{Face, faces, port_face, sites_after, standing, working}
use Rattle.nemo_job.specs.Unrolled.{Copy, unrolled}
use Rattle.nemo_job.specs.declared.vertex.JobVertex.{JobVertex}
use Rattle.nemo_job.specs.declared.vertex.Ref.{Ref}
use Rattle.nemo_job.specs.declared.vertex.Work.{Work}
use Rattle.nemo_job.specs.declared.vertex.Work.TheVariants.{Op, Loop}
use Rattle.nemo_job.proofs.ApartTexts.{Apart, Differs, IsWord, all_new_from, decimal_word, name_word}
use Rattle.nemo_job.proofs.CopyPaths.{all_turns, paths_unrolled}
use Rattle.nemo_job.proofs.FineBodies.{fine_body, fine_first, fine_rest, fine_vertex, good_loop, good_vertex}
use Rattle.nemo_job.proofs.FineSites.{AllFine, fine_sites}
use Rattle.nemo_job.proofs.Induction.{Each, each_one}
use Rattle.nemo_job.proofs.Layers.{loop_paths, op_path, vertex_path, work_paths}
use Rattle.nemo_job.proofs.PathsApart.{paths_apart}
use Rattle.nemo_flat.specs.Flattened.{Numbered, flat_vertex, flattened, kept, kept_from}
use Rattle.nemo_flat.specs.Keeping.{is_wanted}
use Rattle.nemo_flat.specs.Names.{is_word, vertex_names}

---- paths are words

abbrev passes : ℕ → Bool
passes b = not (b == 32 || b == 10)

abbrev IsPlain : List ℕ → Type 0
IsPlain path = is_word path ≡ true

both_plain : (xs ys : List ℕ) → IsPlain xs → IsPlain ys → IsPlain (xs ++ ys)
both_plain xs ys p q = list_all-append passes xs ys ∙ and_from (is_word xs) (is_word ys) p q

-- a byte of a name is no space and no newline
byte_plain : (b : ℕ) → is_name_byte b ≡ true → passes b ≡ true
byte_plain b h = go (eqb_tells b 32) (eqb_tells b 10)
  where
    go : ((b == 32) ≡ true) × (b ≡ 32) ⊎ ((b == 32) ≡ false) × (b ≡ 32 → ⊥) → ((b == 10) ≡ true) × (b ≡ 10) ⊎ ((b == 10) ≡ false) × (b ≡ 10 → ⊥) → passes b ≡ true
    go (inl p) q = absurd (true≢false (sym h ∙ ap is_name_byte p.1))
    go (inr p) (inl q) = absurd (true≢false (sym h ∙ ap is_name_byte q.1))
    go (inr p) (inr q) = λ i. not (p.0 i || q.0 i)

word_plain : (s : List ℕ) → IsWord s → IsPlain s
word_plain [] h = refl
word_plain (c ∷ cs) h = go (word_plain cs) (is_name_byte c) refl h
  where
    go : (IsWord cs → IsPlain cs) → (b : Bool) → is_name_byte c ≡ b → cond b (1 + prefix_len is_name_byte cs) 0 ≡ suc (length cs) → IsPlain (c ∷ cs)
    go rest true e n = and_from (passes c) (is_word cs) (byte_plain c e) (rest (omega (arith, n)))
    go rest false e n = absurd (omega (arith, n))

turn_plain : (path : List ℕ) (i : ℕ) → i < 2 ^ 64 → IsPlain path → IsPlain (turn_path path i)
turn_plain path i small p =
    both_plain (path ++ 91 ∷ [] ++ decimal i) (93 ∷ 47 ∷ [])
    (both_plain (path ++ 91 ∷ []) (decimal i) (both_plain path (91 ∷ []) p refl) (word_plain (decimal i) (decimal_word i small))) refl

abbrev WorkPlain : Work → Type 0
WorkPlain w = (path : List ℕ) (depth : ℕ) → is_good depth (working w).doing ≡ true → AllFine ((working w).sites depth) → IsPlain path → All IsPlain (work_paths w path)

abbrev VertexPlain : JobVertex → Type 0
VertexPlain v = (path : List ℕ) (before from : List Face) (depth : ℕ) → AllFine ((standing v).sites before from depth) → IsPlain path → All IsPlain (vertex_paths v path)

op_plain : (t : Transform) → WorkPlain (Op t)
op_plain t path depth good fine p = subst (All IsPlain) (sym (op_path t path)) (All-cons IsPlain path [] p (All-nil IsPlain))

all_plain : (vs : List JobVertex) → Each VertexPlain vs → (path : List ℕ) (before : List Face) (depth : ℕ) → AllFine (sites_after before depth (map standing vs))
    → IsPlain path → All IsPlain (flat_map (λ v. vertex_paths v path) vs)
all_plain [] each path before depth fine p = All-nil IsPlain
all_plain (v ∷ vs) each path before depth fine p =
    All-append IsPlain (vertex_paths v path) (flat_map (λ w. vertex_paths w path) vs)
    (each.0 path before (faces (map standing (v ∷ vs))) depth (fine_first v vs before depth fine) p)
    (all_plain vs each.1 path (before ++ (standing v).face ∷ []) depth (fine_rest v vs before depth fine) p)

loop_plain : (turns : ℕ) (carry : List (List ℕ)) (body : List JobVertex) (next : List Ref) → Each VertexPlain body → WorkPlain (Loop turns carry body next)
loop_plain turns carry body next each path depth good fine p =
    subst (All IsPlain) (sym (loop_paths turns carry body next path))
    (all_turns IsPlain 0 turns (λ i. flat_map (λ v. v (turn_path path i)) (map vertex_paths body)) one)
  where
    one : (i : ℕ) → 0 ≤ i → i < 0 + turns → All IsPlain (flat_map (λ v. v (turn_path path i)) (map vertex_paths body))
    one i low l =
        let most : turns ≤ 64 = (good_loop turns carry body next depth good).0 in
        subst (All IsPlain) (sym (flat_map-map (λ v. v (turn_path path i)) vertex_paths body))
        (all_plain body each (turn_path path i) (map port_face carry) (depth + 1) (fine_body turns carry body next depth fine) (turn_plain path i (omega arith) p))

vertex_plain : (v : JobVertex) → WorkPlain v.work → VertexPlain v
vertex_plain v work path before from depth fine p =
    let f = fine_vertex v before from depth fine in
    subst (All IsPlain) (sym (vertex_path v path))
    (work (path ++ v.name) depth (good_vertex v before from depth f.0) f.1 (both_plain path v.name p (word_plain v.name (name_word v.name f.0.named))))

paths_plain : (vs : List JobVertex) → IsJob vs → All IsPlain (paths vs)
paths_plain vs h = all_plain vs (each_one WorkPlain VertexPlain op_plain loop_plain vertex_plain vs) [] [] 0 (fine_sites vs h) refl

---- those of the kept copies

abbrev paths_of : List Numbered → List (List ℕ)
paths_of ns = map (λ n. n.copy.path) ns

module _ (P : List ℕ → Type 0) where
  kept_all : (place : ℕ) (cs : List Copy) → All P (map (λ c. c.path) cs) → All P (paths_of (kept_from place cs))
  kept_all place [] h = h
  kept_all place (c ∷ cs) h = go (is_wanted (kept_from (place + 1) cs) place c) (kept_all (place + 1) cs (All-tail P c.path (map (λ d. d.path) cs) h))
    where
      go : (b : Bool) → All P (paths_of (kept_from (place + 1) cs)) → All P (paths_of (cond b (record { place = place; copy = c } ∷ kept_from (place + 1) cs) (kept_from (place + 1) cs)))
      go true more = All-cons P c.path (paths_of (kept_from (place + 1) cs)) (All-head P c.path (map (λ d. d.path) cs) h) more
      go false more = more

kept_apart : (place : ℕ) (cs : List Copy) → Apart (map (λ c. c.path) cs) → Apart (paths_of (kept_from place cs))
kept_apart place [] h = h
kept_apart place (c ∷ cs) h = go (is_wanted (kept_from (place + 1) cs) place c) (kept_apart (place + 1) cs h.1)
  where
    go : (b : Bool) → Apart (paths_of (kept_from (place + 1) cs)) → Apart (paths_of (cond b (record { place = place; copy = c } ∷ kept_from (place + 1) cs) (kept_from (place + 1) cs)))
    go true more = (kept_all (Differs c.path) (place + 1) cs h.0, more)
    go false more = more

names_are : (ks ns : List Numbered) → map (λ x. x.name) (map (flat_vertex ks) ns) ≡ paths_of ns
names_are ks [] = refl
names_are ks (n ∷ ns) = ap (λ names. n.copy.path ∷ names) (names_are ks ns)

all_words : (names : List (List ℕ)) → All IsPlain names → list_all is_word names ≡ true
all_words [] h = refl
all_words (name ∷ names) h = and_from (is_word name) (list_all is_word names) (All-head IsPlain name names h) (all_words names (All-tail IsPlain name names h))

pub names_differ : (vs : List JobVertex) → IsJob vs → all_new [] (vertex_names (flattened vs)) ≡ true
names_differ vs h =
    ap (all_new []) (names_are (kept (unrolled vs)) (kept (unrolled vs)))
    ∙ all_new_from (paths_of (kept (unrolled vs))) (kept_apart 0 (unrolled vs) (subst Apart (sym (paths_unrolled vs)) (paths_apart vs h)))

pub names_words : (vs : List JobVertex) → IsJob vs → list_all is_word (vertex_names (flattened vs)) ≡ true
names_words vs h =
    ap (list_all is_word) (names_are (kept (unrolled vs)) (kept (unrolled vs)))
    ∙ all_words (paths_of (kept (unrolled vs))) (kept_all IsPlain 0 (unrolled vs) (subst (All IsPlain) (sym (paths_unrolled vs)) (paths_plain vs h)))
