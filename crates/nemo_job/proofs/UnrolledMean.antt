-- What a job means, by its copies: unrolling keeps it.
use Rattle.std.proofs.Common.{◌≡◌, ◌≤◌, ◌∙◌, refl, sym, ap, subst, ℕ, zero, suc, ◌+◌, ◌<◌, List, [], ◌∷◌, ◌++◌, length, map, cond, Bool, true, false, Option, Some, None, unwrap_or, arith}
use Rattle.std.specs.Prelude.{slice_get}
use Rattle.std.proofs.Math.ListN.{get_or-map}
use Rattle.std.proofs.Math.Seq.{get_or-append_seam}
use Rattle.std.proofs.lemmas.List.{get_or_past, length-map, map-append}
use Rattle.std.proofs.lemmas.List.Elements.{All-head, All-nil, All-tail}
use Rattle.std.proofs.lemmas.Simd.{map-map}
use Rattle.nemo_value.specs.Texts.{same_text}
use Rattle.nemo_transform.specs.Brought.{at, nothing, port}
use Rattle.nemo_transform.specs.declared.transform.Transform.{Transform}
use Rattle.nemo_job.specs.ByPlace.{ByPlace, Placed, value_after, values, values_from}
use Rattle.nemo_job.specs.Mean.{ByPath, Entry, carried, look, mean, ports_at, run, turn_path, turns_from, vertex_mean, work_mean}
use Rattle.nemo_job.specs.Unrolled.{Bound, Copy, Fed, Ports, Scope, at_start, bound, copied, fed_by, path_at, path_or, placed_copies, placed_copy, ports_of, source_of, unroll_all, unroll_vertex, unroll_work}
use Rattle.nemo_job.specs.declared.vertex.JobVertex.{JobVertex}
use Rattle.nemo_job.specs.declared.vertex.Ref.{Ref}
use Rattle.nemo_job.specs.declared.vertex.Work.{Work}
use Rattle.nemo_job.specs.declared.vertex.Work.TheVariants.{Op, Loop}
use Rattle.nemo_job.proofs.Growing.{Grows, Low, LowFed, LowNames, LowPorts, LowScope, all_grow, all_low, copy_of, fed_low, grows_none, grows_then, start_low, turn_of, turn_start, turns_keep, turns_unrolled, vertex_low, work_grows}
use Rattle.nemo_job.proofs.Induction.{Each, each_one}
use Rattle.nemo_job.proofs.Layers.{loop_mean, op_unrolled, vertex_unrolled}
use Rattle.nemo_job.proofs.Lookups.{entry_of, op_mean}
use Rattle.nemo_job.proofs.Natural.{at_renamed, renamed}
use Rattle.nemo_job.proofs.Values.{kept, length_values}

-- what a port brings, by the values of the copies
abbrev pub brought : (ℕ → List ℕ) → List ByPlace → Option ℕ → ByPath
brought f vals (Some place) = renamed f (port vals place)
brought f vals None = nothing

-- the entry of a name
abbrev pub entry_in : (ℕ → List ℕ) → List ByPlace → Bound → Entry
entry_in f vals b = record { name = b.name; ports = map (brought f vals) b.ports }

---- the values of copies

abbrev pub copy_values : List Copy → List ByPlace
copy_values cs = values (map placed_copy cs)

values_append : (done : List ByPlace) (ps qs : List Placed) → values_from done (ps ++ qs) ≡ values_from (values_from done ps) qs
values_append done [] qs = refl
values_append done (p ∷ ps) qs = values_append (done ++ value_after done p ∷ []) ps qs

values_more : (cs more : List Copy) → copy_values (cs ++ more) ≡ values_from (copy_values cs) (map placed_copy more)
values_more cs more = ap values (map-append placed_copy cs more) ∙ values_append [] (map placed_copy cs) (map placed_copy more)

length_copies : (cs : List Copy) → length (copy_values cs) ≡ length cs
length_copies cs =
    let counted : length (copy_values cs) ≡ 0 + length (map placed_copy cs) = length_values [] (map placed_copy cs) in
    let mapped : length (map placed_copy cs) ≡ length cs = length-map cs placed_copy in
    omega arith

-- what a copy gives stays where copies are added
value_stays : (a b : List Copy) (k : ℕ) → Grows a b → k < length a → port (copy_values b) k ≡ port (copy_values a) k
value_stays a b k g within =
    let size = length_copies a in
    ap (λ cs. port (copy_values cs) k) g.1 ∙ ap (λ vals. port vals k) (values_more a g.0)
    ∙ kept (copy_values a) (map placed_copy g.0) k (let there : k < length (copy_values a) = omega arith in there)

-- what the last copy gives
newest : (cs : List Copy) (c : Copy) → port (copy_values (cs ++ c ∷ [])) (length cs) ≡ at (length cs) c.transform (map (port (copy_values cs)) c.inputs)
newest cs c =
    let vals = copy_values cs in
    ap (λ all. port all (length cs)) (values_more cs (c ∷ []))
    ∙ ap (port (vals ++ value_after vals (placed_copy c) ∷ [])) (sym (length_copies cs))
    ∙ get_or-append_seam vals (value_after vals (placed_copy c)) [] nothing
    ∙ ap (λ n. at n c.transform (map (port vals) c.inputs)) (length_copies cs)

slice_get_left : {X : Type 0} (xs ys : List X) (k : ℕ) (x : X) → slice_get xs k ≡ Some x → slice_get (xs ++ ys) k ≡ Some x
slice_get_left [] ys k x h = cc
slice_get_left (y ∷ xs) ys zero x h = h
slice_get_left (y ∷ xs) ys (suc k) x h = slice_get_left xs ys k x h

---- one turn of a loop, by the vertices of the body

abbrev mean_turn : List (List ℕ) → List JobVertex → List Ref → List ℕ → List ByPath → List ByPath
mean_turn carry body next path ports = map (look (run (map (λ v. vertex_mean v path) body) (carried ports carry))) next

turns_mean : (turns : ℕ) (carry : List (List ℕ)) (body : List JobVertex) (next : List Ref) (path : List ℕ) (ports : List ByPath)
    → work_mean (Loop turns carry body next) path ports ≡ turns_from 0 turns (λ i. mean_turn carry body next (turn_path path i)) ports
turns_mean turns carry body next path ports =
    loop_mean turns carry body next path ports
    ∙ (λ i. turns_from 0 turns (λ k given. map (look (run (map-map (λ v. v (turn_path path k)) vertex_mean body i) (carried given carry))) next) ports)

---- by the path of each copy

module _ (f : ℕ → List ℕ) where
  -- f tells the path of each copy
  abbrev Agrees : List Copy → Type 0
  Agrees cs = (k : ℕ) (c : Copy) → slice_get cs k ≡ Some c → f k ≡ c.path

  -- what ports bring
  abbrev fed_mean : Fed → List ByPath
  fed_mean g = map (brought f (copy_values g.copies.made)) g.ports

  -- the entries of the names
  abbrev scope_mean : Scope → List Entry
  scope_mean s = map (entry_in f (copy_values s.copies.made)) s.names

  agrees_before : (a b : List Copy) → Grows a b → Agrees b → Agrees a
  agrees_before a b g h k c there = h k c (ap (λ cs. slice_get cs k) g.1 ∙ slice_get_left a g.0 k c there)

  port_stays : (a b : List Copy) → Grows a b → (p : Option ℕ) → Low (length a) p → brought f (copy_values a) p ≡ brought f (copy_values b) p
  port_stays a b g None low = refl
  port_stays a b g (Some place) low = ap (renamed f) (sym (value_stays a b place g low))

  ports_stay : (a b : List Copy) → Grows a b → (ports : Ports) → LowPorts (length a) ports → map (brought f (copy_values a)) ports ≡ map (brought f (copy_values b)) ports
  ports_stay a b g [] low = refl
  ports_stay a b g (p ∷ ports) low =
      λ i. port_stays a b g p (All-head (Low (length a)) p ports low) i ∷ ports_stay a b g ports (All-tail (Low (length a)) p ports low) i

  names_stay : (a b : List Copy) → Grows a b → (names : List Bound) → LowNames (length a) names → map (entry_in f (copy_values a)) names ≡ map (entry_in f (copy_values b)) names
  names_stay a b g [] low = refl
  names_stay a b g (n ∷ names) low =
      let here = ports_stay a b g n.ports (All-head (λ m. LowPorts (length a) m.ports) n names low) in
      λ i. record { name = n.name; ports = here i } ∷ names_stay a b g names (All-tail (λ m. LowPorts (length a) m.ports) n names low) i

  ---- what references name

  ports_found : (vals : List ByPlace) (name : List ℕ) (names : List Bound) → ports_at name (map (entry_in f vals) names) ≡ map (brought f vals) (ports_of name names)
  ports_found vals name [] = refl
  ports_found vals name (n ∷ names) = go (same_text n.name name) (ports_found vals name names)
    where
      go : (is : Bool) → ports_at name (map (entry_in f vals) names) ≡ map (brought f vals) (ports_of name names)
          → cond is (map (brought f vals) n.ports) (ports_at name (map (entry_in f vals) names)) ≡ map (brought f vals) (cond is n.ports (ports_of name names))
      go true h = refl
      go false h = h

  found : (vals : List ByPlace) (names : List Bound) (r : Ref) → look (map (entry_in f vals) names) r ≡ brought f vals (source_of names r)
  found vals names r = ap (λ ports. port ports r.port) (ports_found vals r.name names) ∙ get_or-map (brought f vals) (ports_of r.name names) r.port None

  all_found : (vals : List ByPlace) (names : List Bound) (refs : List Ref) → map (look (map (entry_in f vals) names)) refs ≡ map (brought f vals) (map (source_of names) refs)
  all_found vals names [] = refl
  all_found vals names (r ∷ refs) = λ i. found vals names r i ∷ all_found vals names refs i

  carried_is : (vals : List ByPlace) (ports : Ports) (carry : List (List ℕ)) → carried (map (brought f vals) ports) carry ≡ map (entry_in f vals) (bound ports carry)
  carried_is vals [] carry = refl
  carried_is vals (p ∷ ports) [] = refl
  carried_is vals (p ∷ ports) (name ∷ carry) = ap (λ es. record { name = name; ports = brought f vals p ∷ [] } ∷ es) (carried_is vals ports carry)

  ---- an operation

  input_is : (vals : List ByPlace) (n : ℕ) → length vals ≤ n → (p : Option ℕ) → brought f vals p ≡ renamed f (port vals (unwrap_or p n))
  input_is vals n past None = ap (renamed f) (sym (get_or_past vals n nothing past))
  input_is vals n past (Some place) = refl

  inputs_are : (vals : List ByPlace) (n : ℕ) → length vals ≤ n → (ports : Ports)
      → map (brought f vals) ports ≡ map (renamed f) (map (port vals) (map (λ p. unwrap_or p n) ports))
  inputs_are vals n past [] = refl
  inputs_are vals n past (p ∷ ports) = λ i. input_is vals n past p i ∷ inputs_are vals n past ports i

  slice_get_last : (cs : List Copy) (c : Copy) → slice_get (cs ++ c ∷ []) (length cs) ≡ Some c
  slice_get_last [] c = refl
  slice_get_last (d ∷ cs) c = slice_get_last cs c

  copy_means : (t : Transform) (path : List ℕ) (g : Fed) → Agrees (copied path t g).copies.made → at path t (fed_mean g) ∷ [] ≡ fed_mean (copied path t g)
  copy_means t path g agrees =
      let cs = g.copies.made in
      let n = length cs in
      let vals = copy_values cs in
      let c = copy_of path t g in
      let past : length vals ≤ n = (let size = length_copies cs in omega arith) in
      let named : f n ≡ path = agrees n c (slice_get_last cs c) in
      let given : at path t (fed_mean g) ≡ renamed f (port (copy_values (cs ++ c ∷ [])) n) =
      ap (at path t) (inputs_are vals n past g.ports)
      ∙ ap (λ x. at x t (map (renamed f) (map (port vals) c.inputs))) (sym named)
      ∙ at_renamed f n t (map (port vals) c.inputs)
      ∙ ap (renamed f) (sym (newest cs c)) in
      ap (λ b. b ∷ []) given

  ---- by induction

  abbrev WorkMeans : Work → Type 0
  WorkMeans w = (path : List ℕ) (g : Fed) → LowFed g → Agrees (unroll_work w path g).copies.made → work_mean w path (fed_mean g) ≡ fed_mean (unroll_work w path g)

  abbrev VertexMeans : JobVertex → Type 0
  VertexMeans v = (path : List ℕ) (s : Scope) → LowScope s → Agrees (unroll_vertex v path s).copies.made
      → scope_mean s ++ vertex_mean v path (scope_mean s) ∷ [] ≡ scope_mean (unroll_vertex v path s)

  body_means : (vs : List JobVertex) → Each VertexMeans vs → (path : List ℕ) (s : Scope) → LowScope s → Agrees (unroll_all vs path s).copies.made
      → run (map (λ v. vertex_mean v path) vs) (scope_mean s) ≡ scope_mean (unroll_all vs path s)
  body_means [] h path s low agrees = refl
  body_means (v ∷ vs) h path s low agrees =
      let t = unroll_vertex v path s in
      ap (run (map (λ w. vertex_mean w path) vs)) (h.0 path s low (agrees_before t.copies.made (unroll_all vs path t).copies.made (all_grow vs path t) agrees))
      ∙ body_means vs h.1 path t (vertex_low v path s low) agrees

  turn_means : (first : ℕ) (carry : List (List ℕ)) (body : List JobVertex) (next : List Ref) → Each VertexMeans body
      → (path : List ℕ) (g : Fed) → LowFed g → Agrees (turn_of first carry body next path g).copies.made → mean_turn carry body next path (fed_mean g) ≡ fed_mean (turn_of first carry body next path g)
  turn_means first carry body next h path g low agrees =
      let s = turn_start first carry g in
      let t = unroll_all body path s in
      ap (λ es. map (look (run (map (λ v. vertex_mean v path) body) es)) next) (carried_is (copy_values g.copies.made) g.ports carry)
      ∙ ap (λ es. map (look es) next) (body_means body h path s (start_low first carry g low) agrees)
      ∙ all_found (copy_values t.copies.made) t.names next

  all_turns_mean : (m : ℕ → List ByPath → List ByPath) (u : ℕ → Fed → Fed)
      → ((i : ℕ) (g : Fed) → Grows g.copies.made (u i g).copies.made) → ((i : ℕ) (g : Fed) → LowFed g → LowFed (u i g))
      → ((i : ℕ) (g : Fed) → LowFed g → Agrees (u i g).copies.made → m i (fed_mean g) ≡ fed_mean (u i g))
      → (i n : ℕ) (g : Fed) → LowFed g → Agrees (turns_from i n u g).copies.made → turns_from i n m (fed_mean g) ≡ fed_mean (turns_from i n u g)
  all_turns_mean m u grows keeps same i zero g low agrees = refl
  all_turns_mean m u grows keeps same i (suc n) g low agrees =
      let now = u i g in
      let more : Grows now.copies.made (turns_from (i + 1) n u now).copies.made =
      turns_keep (λ h. Grows now.copies.made h.copies.made) u (λ k h p. grows_then now.copies.made h.copies.made (u k h).copies.made p (grows k h)) (i + 1) n now (grows_none now.copies.made) in
      ap (turns_from (i + 1) n m) (same i g low (agrees_before now.copies.made (turns_from (i + 1) n u now).copies.made more agrees))
      ∙ all_turns_mean m u grows keeps same (i + 1) n now (keeps i g low) agrees

  op_means : (t : Transform) → WorkMeans (Op t)
  op_means t path g low agrees =
      op_mean t path (fed_mean g) ∙ copy_means t path g (subst (λ h. Agrees h.copies.made) (op_unrolled t path g) agrees) ∙ ap fed_mean (sym (op_unrolled t path g))

  loop_means : (turns : ℕ) (carry : List (List ℕ)) (body : List JobVertex) (next : List Ref) → Each VertexMeans body → WorkMeans (Loop turns carry body next)
  loop_means turns carry body next h path g low agrees =
      let first = g.copies.next in
      let is = turns_unrolled turns carry body next path g in
      turns_mean turns carry body next path (fed_mean g)
      ∙ all_turns_mean (λ i. mean_turn carry body next (turn_path path i)) (λ i. turn_of first carry body next (turn_path path i))
      (λ i k. all_grow body (turn_path path i) (turn_start first carry k))
      (λ i k p. fed_low next (unroll_all body (turn_path path i) (turn_start first carry k)) (all_low body (turn_path path i) (turn_start first carry k) (start_low first carry k p)))
      (λ i k. turn_means first carry body next h (turn_path path i) k)
      0 turns g low (subst (λ k. Agrees k.copies.made) is agrees)
      ∙ ap fed_mean (sym is)

  vertex_means : (v : JobVertex) → WorkMeans v.work → VertexMeans v
  vertex_means v h path s low agrees =
      let own = path ++ v.name in
      let g = fed_by v.inputs s in
      let w = unroll_work v.work own g in
      let given : work_mean v.work own (map (look (scope_mean s)) v.inputs) ≡ fed_mean w =
      ap (work_mean v.work own) (all_found (copy_values s.copies.made) s.names v.inputs)
      ∙ h own g (fed_low v.inputs s low) (subst (λ t. Agrees t.copies.made) (vertex_unrolled v path s) agrees) in
      let before = names_stay s.copies.made w.copies.made (work_grows v.work own g) s.names low in
      ap (λ e. scope_mean s ++ e ∷ []) (entry_of v path (scope_mean s))
      ∙ (λ i. before i ++ record { name = v.name; ports = given i } ∷ [])
      ∙ sym (map-append (entry_in f (copy_values w.copies.made)) s.names (record { name = v.name; ports = w.ports } ∷ []))
      ∙ ap scope_mean (sym (vertex_unrolled v path s))

  all_means : (vs : List JobVertex) → Agrees (unroll_all vs [] at_start).copies.made → run (map (λ v. vertex_mean v []) vs) [] ≡ scope_mean (unroll_all vs [] at_start)
  all_means vs agrees =
      body_means vs (each_one WorkMeans VertexMeans op_means loop_means vertex_means vs) [] at_start (All-nil (λ (b : Bound). LowPorts 0 b.ports)) agrees

-- unrolling a job keeps what it means
pub mean_unrolled : (vs : List JobVertex) → mean vs ≡ map (entry_in (path_at vs) (values (placed_copies vs))) (unroll_all vs [] at_start).names
mean_unrolled vs = all_means (path_at vs) vs (λ k c there. ap path_or there)
