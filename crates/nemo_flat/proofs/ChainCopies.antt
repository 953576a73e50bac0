-- The copies of a chain: one of each vertex, on the one before it. All are kept.
use Rattle.std.proofs.Common.{rules, arith, ◌≡◌, ◌∙◌, ap, sym, refl, ℕ, zero, suc, ◌+◌, ◌<◌, ◌≤◌, ◌==◌, ◌&&◌, ◌||◌, List, [], ◌∷◌, ◌++◌, append-nil, append_assoc, Bool, true, false, not, cond, length, map, slice_get, slice_index_or, Some, None, eq-eqb, eqb-true, length-append}
use Rattle.std.proofs.lemmas.Bool.{or_right}
use Rattle.std.proofs.lemmas.List.Folds.{list_any-append}
use Rattle.std.proofs.lemmas.List.Sums.{sum_by-cons}
use Rattle.std.specs.Cmp.{first_so, second_so}
use Rattle.std.specs.Cmp.Lexicographic.{nat_list_eq_equiv, same_text as same_bytes}
use Rattle.std.specs.List.{list_any}
use Rattle.nemo_base.specs.Numbered.{map_at}
use Rattle.nemo_value.specs.Texts.{all_new, same_text}
use Rattle.nemo_transform.specs.declared.transform.Transform.{Transform}
use Rattle.nemo_transform.specs.declared.transform.Transform.TheVariants.{Map, Sink, Source}
use Rattle.nemo_ir.specs.Flat.{is_sink}
use Rattle.nemo_ir.specs.Line.{one_before}
use Rattle.nemo_ir.proofs.Places.{got, map_at-whole}
use Rattle.nemo_job.specs.Chain.{follows, has_none, is_built, is_end, is_map, links, names_of}
use Rattle.nemo_transform.specs.Sinks.{does_sink}
use Rattle.nemo_job.specs.Unrolled.{Bound, Copy, Scope, at_start, bind, copied, each, fed_by, ports_of, source_of, unroll_vertex, unroll_work, unrolled}
use Rattle.nemo_job.specs.declared.vertex.JobVertex.{JobVertex}
use Rattle.nemo_job.specs.declared.vertex.Ref.{Ref}
use Rattle.nemo_job.specs.declared.vertex.Work.{the_lemmas}
use Rattle.nemo_job.specs.declared.vertex.Work.TheVariants.{Op}
use Rattle.nemo_job.proofs.ChainMean.{parts}
use Rattle.nemo_job.proofs.Layers.{op_unrolled, vertex_unrolled}
use Rattle.nemo_flat.specs.Counts.{copies, vertex_copies}
use Rattle.nemo_flat.specs.Flat.{copy_at, flat_of}
use Rattle.nemo_flat.specs.Flattened.{Numbered, flat_vertex, flattened, is_taken, kept, kept_from, number_of}
use Rattle.nemo_flat.specs.Table.{all_operations, vertex_operations}
use Rattle.nemo_flat.proofs.ChainFlat.{chain_is, end_op, map_op, source_op, table, table_more}
use Rattle.nemo_flat.proofs.KeptCopies.{number_at}
use Rattle.nemo_flat.proofs.Tables.{operations_are}

---- the vertices of a chain

-- those after the vertex of a name are a chain's
abbrev Next : List ℕ → List JobVertex → Type 0
Next name [] = Unit {0}
Next name (v ∷ vs) = links name (v ∷ vs) ≡ true

record IsLink (name : List ℕ) (v : JobVertex) (vs : List JobVertex) : Type 0 where
  op : Transform
  is : v.work ≡ Op op
  fed : follows name v.inputs ≡ true
  next : Next v.name vs

link_of : (name : List ℕ) (v : JobVertex) (vs : List JobVertex) → links name (v ∷ vs) ≡ true → IsLink name v vs
link_of name v [] h =
    let op = end_op v.name v.work (first_so (is_end v.name v.work) (follows name v.inputs) h) in
    record { op = Sink op.0; is = op.1; fed = second_so (is_end v.name v.work) (follows name v.inputs) h; next = tt }
link_of name v (w ∷ vs) h =
    let first : (is_map v.work && follows name v.inputs) ≡ true = first_so (is_map v.work && follows name v.inputs) (links v.name (w ∷ vs)) h in
    let op = map_op v.work (first_so (is_map v.work) (follows name v.inputs) first) in
    record {
      op = Map op.0;
      is = op.1;
      fed = second_so (is_map v.work) (follows name v.inputs) first;
      next = second_so (is_map v.work && follows name v.inputs) (links v.name (w ∷ vs)) h;
    }

-- each is an operation
abbrev AllOps : List JobVertex → Type 0
AllOps [] = Unit {0}
AllOps (v ∷ vs) = ((t : Transform) × (v.work ≡ Op t)) × AllOps vs

rest_ops : (name : List ℕ) (vs : List JobVertex) → Next name vs → AllOps vs
rest_ops name [] h = tt
rest_ops name (v ∷ vs) h = let l = link_of name v vs h in ((l.op, l.is), rest_ops v.name vs l.next)

next_of : (name : List ℕ) (vs : List JobVertex) → links name vs ≡ true → Next name vs
next_of name [] h = tt
next_of name (v ∷ vs) h = h

chain_ops : (vs : List JobVertex) → is_built vs ≡ true → AllOps vs
chain_ops [] h = cc
chain_ops (s ∷ rest) h =
    let p = parts s rest h in
    let op = source_op s.work p.source in
    ((Source op.0, op.1), rest_ops s.name rest (next_of s.name rest p.linked))

---- one copy and one operation of each

one_copy : (name : List ℕ) (t : Transform) (inputs : List Ref) → vertex_copies (record { name = name; work = Op t; inputs = inputs }) ≡ 1
one_copy name t inputs = search (rules, the_lemmas)

own_operation : (name : List ℕ) (t : Transform) (inputs : List Ref) → vertex_operations (record { name = name; work = Op t; inputs = inputs }) ≡ t ∷ []
own_operation name t inputs = search (rules, the_lemmas)

ops_count : (vs : List JobVertex) → AllOps vs → copies vs ≡ length vs
ops_count [] h = refl
ops_count (v ∷ vs) h =
    let more : copies (v ∷ vs) ≡ vertex_copies v + copies vs = sum_by-cons (λ (n : ℕ). n) (vertex_copies v) (map vertex_copies vs) in
    let one : vertex_copies v ≡ 1 = ap (λ w. vertex_copies (record { name = v.name; work = w; inputs = v.inputs })) h.0.1 ∙ one_copy v.name h.0.0 v.inputs in
    let rest : copies vs ≡ length vs = ops_count vs h.1 in
    omega arith

ops_table : (vs : List JobVertex) → AllOps vs → all_operations vs ≡ table vs
ops_table [] h = refl
ops_table (v ∷ vs) h =
    let one : vertex_operations v ≡ h.0.0 ∷ [] = ap (λ w. vertex_operations (record { name = v.name; work = w; inputs = v.inputs })) h.0.1 ∙ own_operation v.name h.0.0 v.inputs in
    ap (λ ts. ts ++ all_operations vs) one ∙ ap (λ ts. h.0.0 ∷ ts) (ops_table vs h.1) ∙ sym (table_more v vs h.0.0 h.0.1)

pub chain_few : (vs : List JobVertex) → is_built vs ≡ true → copies vs ≤ 512
chain_few vs h = let few : length vs ≤ 512 = (chain_is vs h).few in omega (arith, ops_count vs (chain_ops vs h))

---- names

or_turn : (a b : Bool) → (a || (b || false)) ≡ (b || a)
or_turn true true = refl
or_turn true false = refl
or_turn false true = refl
or_turn false false = refl

new_is : (b : Bool) → not b ≡ true → b ≡ false
new_is true h = cc
new_is false h = refl

-- the names that are bound are those seen
abbrev SameNames : List Bound → List (List ℕ) → Type 0
SameNames names seen = (q : List ℕ) → list_any (λ b. same_text b.name q) names ≡ list_any (same_text q) seen

same_more : (names : List Bound) (seen : List (List ℕ)) (b : Bound) → SameNames names seen → SameNames (names ++ b ∷ []) (b.name ∷ seen)
same_more names seen b same q =
    list_any-append (λ d. same_text d.name q) names (b ∷ [])
    ∙ or_turn (list_any (λ d. same_text d.name q) names) (same_text b.name q)
    ∙ (λ i. nat_list_eq_equiv.symm b.name q i || same q i)

-- a name that is new finds what comes last
ports_of-new : (names : List Bound) (b : Bound) → list_any (λ d. same_text d.name b.name) names ≡ false → ports_of b.name (names ++ b ∷ []) ≡ b.ports
ports_of-new [] b fresh = ap (λ c. cond c b.ports []) (nat_list_eq_equiv.refl b.name)
ports_of-new (d ∷ names) b fresh = go (same_text d.name b.name) fresh (ports_of-new names b)
  where
    go : (c : Bool) → (c || list_any (λ e. same_text e.name b.name) names) ≡ false
        → (list_any (λ e. same_text e.name b.name) names ≡ false → ports_of b.name (names ++ b ∷ []) ≡ b.ports)
        → cond c d.ports (ports_of b.name (names ++ b ∷ [])) ≡ b.ports
    go true h ih = cc
    go false h ih = ih h

found : (inputs : List Ref) (name : List ℕ) (names : List Bound) (k : ℕ) → follows name inputs ≡ true → ports_of name names ≡ Some k ∷ [] → map (source_of names) inputs ≡ Some k ∷ []
found [] name names k h here = cc
found (r ∷ []) name names k h here =
    let same : r.name ≡ name = same_bytes r.name name (sym (first_so (same_text r.name name) (r.port == 0) h)) in
    let port : r.port ≡ 0 = eqb-true r.port 0 (second_so (same_text r.name name) (r.port == 0) h) in
    (λ i. slice_index_or (ports_of (same i) names) (port i) None ∷ []) ∙ ap (λ ports. slice_index_or ports 0 None ∷ []) here
found (r ∷ q ∷ rs) name names k h here = cc

---- the copies

abbrev pub chain_copies : ℕ → List (List ℕ) → List Transform → List Copy
chain_copies k [] ts = []
chain_copies k (n ∷ ns) [] = []
chain_copies k (n ∷ ns) (t ∷ ts) = record { path = n; number = k; transform = t; inputs = one_before k } ∷ chain_copies (k + 1) ns ts

-- the copy that comes next
abbrev next_copy : JobVertex → Transform → ℕ → Copy
next_copy v t k = record { path = v.name; number = suc k; transform = t; inputs = k ∷ [] }

abbrev scope_after : Scope → JobVertex → Transform → ℕ → Scope
scope_after s v t k = record {
  copies = record { made = s.copies.made ++ next_copy v t k ∷ []; next = suc k + 1 };
  names = s.names ++ record { name = v.name; ports = Some (suc k) ∷ [] } ∷ [];
}

-- the last copy is that of this name
record IsChained (name : List ℕ) (k : ℕ) (seen : List (List ℕ)) (s : Scope) : Type 0 where
  size : length s.copies.made ≡ suc k
  next : s.copies.next ≡ suc k
  names : SameNames s.names seen
  here : ports_of name s.names ≡ Some k ∷ []

step : (name : List ℕ) (v : JobVertex) (t : Transform) (k : ℕ) (seen : List (List ℕ)) (s : Scope) → v.work ≡ Op t → follows name v.inputs ≡ true → IsChained name k seen s → unroll_vertex v [] s ≡ scope_after s v t k
step name v t k seen s is fed c =
    vertex_unrolled v [] s
    ∙ ap (λ w. bind s.names v.name (unroll_work w v.name (fed_by v.inputs s))) is
    ∙ ap (bind s.names v.name) (op_unrolled t v.name (fed_by v.inputs s))
    ∙ ap (λ ports. bind s.names v.name (copied v.name t (record { copies = s.copies; ports = ports }))) (found v.inputs name s.names k fed c.here)
    ∙ (λ i. record {
      copies = record { made = s.copies.made ++ record { path = v.name; number = c.next i; transform = t; inputs = k ∷ [] } ∷ []; next = c.next i + 1 };
      names = s.names ++ record { name = v.name; ports = Some (c.size i) ∷ [] } ∷ [];
    })

chained : (name : List ℕ) (v : JobVertex) (t : Transform) (k : ℕ) (seen : List (List ℕ)) (s : Scope) → list_any (same_text v.name) seen ≡ false → IsChained name k seen s
    → IsChained v.name (suc k) (v.name ∷ seen) (scope_after s v t k)
chained name v t k seen s fresh c =
    let size : length s.copies.made ≡ suc k = c.size in
    let more : length (s.copies.made ++ next_copy v t k ∷ []) ≡ length s.copies.made + 1 = length-append s.copies.made (next_copy v t k ∷ []) in
    let own : Bound = record { name = v.name; ports = Some (suc k) ∷ [] } in
    record { size = omega arith; next = omega arith; names = same_more s.names seen own c.names; here = ports_of-new s.names own (c.names v.name ∙ fresh) }

run_chain : (vs : List JobVertex) (name : List ℕ) (k : ℕ) (seen : List (List ℕ)) (s : Scope) → Next name vs → all_new seen (names_of vs) ≡ true → IsChained name k seen s
    → (each (map (λ v. unroll_vertex v []) vs) s).copies.made ≡ s.copies.made ++ chain_copies (suc k) (names_of vs) (table vs)
run_chain [] name k seen s h new c = sym (append-nil s.copies.made)
run_chain (v ∷ vs) name k seen s h new c =
    let l = link_of name v vs h in
    let own = next_copy v l.op k in
    let fresh = new_is (list_any (same_text v.name) seen) (first_so (not (list_any (same_text v.name) seen)) (all_new (v.name ∷ seen) (names_of vs)) new) in
    let one : suc (suc k) ≡ suc k + 1 = omega arith in
    ap (λ x. (each (map (λ u. unroll_vertex u []) vs) x).copies.made) (step name v l.op k seen s l.is l.fed c)
    ∙ run_chain vs v.name (suc k) (v.name ∷ seen) (scope_after s v l.op k) l.next
    (second_so (not (list_any (same_text v.name) seen)) (all_new (v.name ∷ seen) (names_of vs)) new) (chained name v l.op k seen s fresh c)
    ∙ append_assoc s.copies.made (own ∷ []) (chain_copies (suc (suc k)) (names_of vs) (table vs))
    ∙ ap (λ n. s.copies.made ++ own ∷ chain_copies n (names_of vs) (table vs)) one
    ∙ ap (λ ts. s.copies.made ++ chain_copies (suc k) (names_of (v ∷ vs)) ts) (sym (table_more v vs l.op l.is))

no_inputs : (inputs : List Ref) (names : List Bound) → has_none inputs ≡ true → map (source_of names) inputs ≡ []
no_inputs [] names h = refl
no_inputs (r ∷ rs) names h = cc

abbrev first_scope : List ℕ → Transform → Scope
first_scope name t = record {
  copies = record { made = record { path = name; number = 0; transform = t; inputs = [] } ∷ []; next = 1 };
  names = record { name = name; ports = Some 0 ∷ [] } ∷ [];
}

chain_unrolled : (vs : List JobVertex) → is_built vs ≡ true → unrolled vs ≡ chain_copies 0 (names_of vs) (table vs)
chain_unrolled [] h = refl
chain_unrolled (s ∷ rest) h =
    let p = parts s rest h in
    let op = source_op s.work p.source in
    let begun : Scope = first_scope s.name (Source op.0) in
    let first : unroll_vertex s [] at_start ≡ begun =
    vertex_unrolled s [] at_start ∙ ap (λ w. bind [] s.name (unroll_work w s.name (fed_by s.inputs at_start))) op.1
    ∙ ap (bind [] s.name) (op_unrolled (Source op.0) s.name (fed_by s.inputs at_start))
    ∙ ap (λ ports. bind [] s.name (copied s.name (Source op.0) (record { copies = at_start.copies; ports = ports }))) (no_inputs s.inputs [] p.free) in
    let own : Bound = record { name = s.name; ports = Some 0 ∷ [] } in
    ap (λ x. (each (map (λ u. unroll_vertex u []) rest) x).copies.made) first
    ∙ run_chain rest s.name 0 (s.name ∷ []) begun (next_of s.name rest p.linked) p.new
    (record { size = refl; next = refl; names = same_more [] [] own (λ q. refl); here = ports_of-new [] own refl })
    ∙ ap (chain_copies 0 (names_of (s ∷ rest))) (sym (table_more s rest (Source op.0) op.1))

---- all are kept

abbrev numbered : ℕ → Copy → Numbered
numbered i c = record { place = i; copy = c }

sinks_so : (t : Transform) → is_sink (Some t) ≡ true → does_sink t ≡ true
sinks_so (Sink name) h = refl
sinks_so _ h = cc

-- the last of these is a sink
abbrev EndsInSink : List Transform → Type 0
EndsInSink ts = (i : ℕ) (t : Transform) → slice_get ts i ≡ Some t → suc i ≡ length ts → is_sink (Some t) ≡ true

kept_alone : (b : Bool) (n : Numbered) (ns : List Numbered) → b ≡ true → cond b (n ∷ ns) ns ≡ n ∷ ns
kept_alone b n ns e = ap (λ c. cond c (n ∷ ns) ns) e

all_kept : (k : ℕ) (ns : List (List ℕ)) (ts : List Transform) → length ns ≡ length ts → EndsInSink ts → kept_from k (chain_copies k ns ts) ≡ map_at numbered k (chain_copies k ns ts)
all_kept k [] ts size ends = refl
all_kept k (n ∷ ns) [] size ends = refl
all_kept k (n ∷ []) (t ∷ []) size ends = kept_alone (does_sink t || false) (numbered k (record { path = n; number = k; transform = t; inputs = one_before k })) [] (ap (λ b. b || false) (sinks_so t (ends 0 t refl refl)))
all_kept k (n ∷ []) (t ∷ u ∷ ts) size ends = absurd (omega arith)
all_kept k (n ∷ m ∷ ns) (t ∷ []) size ends = absurd (omega arith)
all_kept k (n ∷ m ∷ ns) (t ∷ u ∷ ts) size ends =
    let own : Copy = record { path = n; number = k; transform = t; inputs = one_before k } in
    let rest = chain_copies (k + 1) (m ∷ ns) (u ∷ ts) in
    let others = all_kept (k + 1) (m ∷ ns) (u ∷ ts) (omega arith) (λ i x e l. ends (suc i) x e (omega arith)) in
    let one : k + 1 ≡ suc k = omega arith in
    let later = map_at numbered (k + 1 + 1) (chain_copies (k + 1 + 1) ns ts) in
    let takes : (list_any (λ j. j == k) (one_before (k + 1)) || is_taken k later) ≡ true =
    ap (λ p. list_any (λ j. j == k) (one_before p) || is_taken k later) one ∙ ap (λ b. (b || false) || is_taken k later) (eq-eqb k k refl) in
    let taken : is_taken k (kept_from (k + 1) rest) ≡ true = ap (is_taken k) others ∙ takes in
    kept_alone (does_sink t || is_taken k (kept_from (k + 1) rest)) (numbered k own) (kept_from (k + 1) rest) (or_right (does_sink t) (is_taken k (kept_from (k + 1) rest)) taken)
    ∙ ap (λ xs. numbered k own ∷ xs) others

---- the flat job

inputs_keep : (f : ℕ → ℕ) (k : ℕ) → ((j : ℕ) → j < k → f j ≡ j) → map f (one_before k) ≡ one_before k
inputs_keep f zero h = refl
inputs_keep f (suc k) h = ap (λ j. j ∷ []) (h k (omega arith))

row_vertices : (all : List Numbered) (k : ℕ) (ns : List (List ℕ)) (ts : List Transform) → length ns ≡ length ts → ((j : ℕ) → j < k + length ns → number_of all j ≡ j)
    → map (flat_vertex all) (map_at numbered k (chain_copies k ns ts)) ≡ map_at copy_at k ns
row_vertices all k [] ts size own = refl
row_vertices all k (n ∷ ns) [] size own = absurd (omega arith)
row_vertices all k (n ∷ ns) (t ∷ ts) size own = λ i.
    record { name = n; transform = k; inputs = inputs_keep (number_of all) k (λ j l. own j (omega arith)) i } ∷ row_vertices all (k + 1) ns ts (omega arith) (λ j l. own j (omega arith)) i

copies_size : (k : ℕ) (ns : List (List ℕ)) (ts : List Transform) → length ns ≡ length ts → length (chain_copies k ns ts) ≡ length ns
copies_size k [] ts h = refl
copies_size k (n ∷ ns) [] h = absurd (omega arith)
copies_size k (n ∷ ns) (t ∷ ts) h = ap suc (copies_size (k + 1) ns ts (omega arith))

pub chain_flattened : (vs : List JobVertex) → is_built vs ≡ true → flattened vs ≡ flat_of vs
chain_flattened vs h =
    let c = chain_is vs h in
    let ns = names_of vs in
    let ts = table vs in
    let cs = chain_copies 0 ns ts in
    let all : kept cs ≡ map_at numbered 0 cs = all_kept 0 ns ts c.size c.row.last in
    let own : (j : ℕ) → j < 0 + length ns → number_of (kept cs) j ≡ j =
    λ j l.
    let within : j < length cs = omega (arith, copies_size 0 ns ts c.size) in
    let g = got cs j within in
    number_at cs j (numbered j g.0) (ap (λ xs. slice_get xs j) all ∙ map_at-whole numbered cs j g.0 g.1) in
    let vertices : map (flat_vertex (kept cs)) (kept cs) ≡ map_at copy_at 0 ns = ap (map (flat_vertex (kept cs))) all ∙ row_vertices (kept cs) 0 ns ts c.size own in
    (λ i. record {
      transforms = (operations_are vs ∙ ops_table vs (chain_ops vs h)) i;
      vertices = (ap (λ xs. map (flat_vertex (kept xs)) (kept xs)) (chain_unrolled vs h) ∙ vertices) i;
    }) ∙ sym c.flat
