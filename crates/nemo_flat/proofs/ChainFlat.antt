-- The flat job of a chain.
use Rattle.std.proofs.Common.{◌+◌, rules, arith, ◌≡◌, ◌∙◌, ap, sym, subst, refl, ℕ, zero, suc, ◌<◌, ◌≤◌, ◌==◌, List, [], ◌∷◌, ◌++◌, length, map, slice_get, Bool, true, false, not, ◌&&◌, ◌||◌, nat_le, nat_lt, Some, None, eq-eqb, inl, inr}
use Rattle.std.proofs.lemmas.Bool.{cases_order}
use Rattle.std.proofs.lemmas.List.{length-map}
use Rattle.std.specs.Cmp.{first_so, second_so}
use Rattle.std.specs.Cmp.Derive.{both_true}
use Rattle.std.specs.List.{cons_option, filter_map, list_all, list_any}
use Rattle.nemo_value.specs.declared.expr.Expr.{Expr}
use Rattle.nemo_transform.specs.Ports.{kinds_of}
use Rattle.nemo_transform.specs.Soundness.{is_sound}
use Rattle.nemo_transform.specs.declared.transform.Transform.{Transform}
use Rattle.nemo_transform.specs.declared.transform.Transform.TheVariants.{Source, Map, Sink}
use Rattle.nemo_ir.specs.Along.{passes}
use Rattle.nemo_ir.specs.Flat.{FlatForm, IsFlat, feeds_one, has_ports, is_input, is_sink, sink_name, transform_of}
use Rattle.nemo_ir.specs.declared.flat.FlatVertex.{FlatVertex}
use Rattle.nemo_base.specs.Numbered.{map_at}
use Rattle.nemo_ir.specs.Line.{one_before}
use Rattle.nemo_flat.specs.Flat.{copy_at, flat_of, operation}
use Rattle.nemo_ir.proofs.Places.{all_at-whole, map_at-whole, map_at-length, got, list_all-each, list_all-whole, list_any-at, one_name, or_true, same_item}
use Rattle.nemo_job.specs.Chain.{follows, is_built, is_end, is_map, is_plain, is_source, links, names_of}
use Rattle.nemo_job.proofs.ChainMean.{parts}
use Rattle.nemo_job.specs.Paths.{paths, vertex_paths}
use Rattle.nemo_job.specs.declared.vertex.JobVertex.{JobVertex}
use Rattle.nemo_job.specs.declared.vertex.Ref.{Ref}
use Rattle.nemo_transform.specs.Gives.{Row}
use Rattle.nemo_job.specs.declared.vertex.Work.{Work, the_lemmas}
use Rattle.nemo_job.specs.declared.vertex.Work.TheVariants.{Op}
use Rattle.std.proofs.lemmas.Option.{slice_get_within}

---- a list of transforms that stand in a row

-- each takes the one before it, and the last alone is a sink
pub record IsRow (ts : List Transform) : Type 0 where
  pub ports : (i : ℕ) (t : Transform) → slice_get ts i ≡ Some t → length (kinds_of t) ≡ length (one_before i)
  pub sound : (i : ℕ) (t : Transform) → slice_get ts i ≡ Some t → is_sound t ≡ true
  pub inner : (i : ℕ) (t : Transform) → slice_get ts i ≡ Some t → suc i < length ts → is_sink (Some t) ≡ false
  pub last : (i : ℕ) (t : Transform) → slice_get ts i ≡ Some t → suc i ≡ length ts → is_sink (Some t) ≡ true

abbrev pub row_of : List Transform → List (List ℕ) → FlatForm
row_of ts names = record { transforms = ts; vertices = map_at copy_at 0 names }

no_name : (t : Transform) → is_sink (Some t) ≡ false → sink_name (Some t) ≡ None
no_name (Sink name) h = cc
no_name _ h = refl

lower : (j : ℕ) → nat_lt j (suc j) ≡ true
lower j = search rules

takes_before : (ts : List Transform) (names : List (List ℕ)) → IsRow ts → length names ≡ length ts → (i : ℕ) → i < length names
    → list_all (is_input (row_of ts names) i) (one_before i) ≡ true
takes_before ts names row size zero h = refl
takes_before ts names row size (suc j) h =
    let n = got names j (omega arith) in
    let t = got ts j (omega arith) in
    let test : FlatVertex → Bool = λ y. not (is_sink (transform_of (row_of ts names) y)) in
    let other : passes test (slice_get (map_at copy_at 0 names) j) ≡ true =
    ap (passes test) (map_at-whole copy_at names j n.0 n.1) ∙ ap (λ o. not (is_sink o)) t.1 ∙ ap not (row.inner j t.0 t.1 (omega arith)) in
    both_true (both_true (lower j) other) refl

ends_or_feeds : (ts : List Transform) (names : List (List ℕ)) → IsRow ts → length names ≡ length ts → (i : ℕ) → i < length names
    → (is_sink (slice_get ts i) || feeds_one (row_of ts names) i) ≡ true
ends_or_feeds ts names row size i h = elim (cases_order (suc i) (length names)) [ inl e ↦ ends e | inr d ↦ elim d [ inl l ↦ feeds l | inr g ↦ absurd (omega arith) ] ]
  where
    ends : suc i ≡ length names → (is_sink (slice_get ts i) || feeds_one (row_of ts names) i) ≡ true
    ends e =
        let t = got ts i (omega arith) in
        ap (λ o. is_sink o || feeds_one (row_of ts names) i) t.1 ∙ ap (λ b. b || feeds_one (row_of ts names) i) (row.last i t.0 t.1 (e ∙ size))

    feeds : suc i < length names → (is_sink (slice_get ts i) || feeds_one (row_of ts names) i) ≡ true
    feeds d =
        let n = got names (suc i) d in
        let one : ((i == i) || false) ≡ true = ap (λ b. b || false) (eq-eqb i i refl) in
        ap (λ b. is_sink (slice_get ts i) || b)
        (list_any-at (λ y. list_any (λ input. input == i) y.inputs) (map_at copy_at 0 names) (suc i) (copy_at (suc i) n.0) (map_at-whole copy_at names (suc i) n.0 n.1) one)
        ∙ or_true (is_sink (slice_get ts i))

fits : (ts : List Transform) (names : List (List ℕ)) → IsRow ts → length names ≡ length ts → (i : ℕ) (n : List ℕ) → i < length names
    → has_ports (row_of ts names) (copy_at i n) ≡ true
fits ts names row size i n h =
    let t = got ts i (omega arith) in
    ap (passes (λ u. length (kinds_of u) == length (one_before i))) t.1 ∙ eq-eqb (length (kinds_of t.0)) (length (one_before i)) (row.ports i t.0 t.1)

pub nameless : (ts : List Transform) (names : List (List ℕ)) → IsRow ts → length names ≡ length ts → (i : ℕ) (x : FlatVertex) → slice_get (map_at copy_at 0 names) i ≡ Some x → suc i < length names
    → sink_name (slice_get ts x.transform) ≡ None
nameless ts names row size i x e h =
    let n = got names i (omega arith) in
    let t = got ts i (omega arith) in
    let is : copy_at i n.0 ≡ x = same_item (copy_at i n.0) x (sym (map_at-whole copy_at names i n.0 n.1) ∙ e) in
    ap (λ y. sink_name (slice_get ts y.transform)) (sym is) ∙ ap sink_name t.1 ∙ no_name t.0 (row.inner i t.0 t.1 (omega arith))

pub flat_row : (ts : List Transform) (names : List (List ℕ)) → IsRow ts → length names ≡ length ts → 1 ≤ length names → length names ≤ 512 → IsFlat (row_of ts names)
flat_row ts names row size some few =
    let flat = row_of ts names in
    let count : length (map_at copy_at 0 names) ≡ length names = map_at-length copy_at 0 names in
    record {
      some = omega arith;
      few = omega arith;
      sound = list_all-each is_sound ts row.sound;
      ports = list_all-whole (has_ports flat) copy_at names (λ i n e. fits ts names row size i n (slice_get_within names i n e));
      inputs = all_at-whole (λ number x. list_all (is_input flat number) x.inputs) copy_at names (λ i n e. takes_before ts names row size i (slice_get_within names i n e));
      ends = all_at-whole (λ number x. is_sink (transform_of flat x) || feeds_one flat number) copy_at names (λ i n e. ends_or_feeds ts names row size i (slice_get_within names i n e));
      names = one_name (λ x. sink_name (transform_of flat x)) (map_at copy_at 0 names) (λ i x e h. nameless ts names row size i x e (omega arith));
    }

---- a chain as a row

abbrev pub table : List JobVertex → List Transform
table vs = filter_map (λ v. operation v.work) vs

pub table_more : (v : JobVertex) (vs : List JobVertex) (t : Transform) → v.work ≡ Op t → table (v ∷ vs) ≡ t ∷ table vs
table_more v vs t e = ap (λ w. cons_option (operation w) (table vs)) e

paths_op : (name : List ℕ) (t : Transform) (inputs : List Ref) → vertex_paths (record { name = name; work = Op t; inputs = inputs }) [] ≡ name ∷ []
paths_op name t inputs = search (rules, the_lemmas)

pub paths_more : (v : JobVertex) (vs : List JobVertex) (t : Transform) → v.work ≡ Op t → paths (v ∷ vs) ≡ v.name ∷ paths vs
paths_more v vs t e = ap (λ w. vertex_paths (record { name = v.name; work = w; inputs = v.inputs }) [] ++ paths vs) e ∙ ap (λ ns. ns ++ paths vs) (paths_op v.name t v.inputs)

pub source_op : (w : Work) → is_source w ≡ true → (rows : List Row) × (w ≡ Op (Source rows))
source_op (Op (Source rows)) h = (rows, refl)
source_op _ h = cc

pub map_op : (w : Work) → is_map w ≡ true → (out : List Expr) × (w ≡ Op (Map out))
map_op (Op (Map out)) h = (out, refl)
map_op _ h = cc

pub end_op : (name : List ℕ) (w : Work) → is_end name w ≡ true → (own : List ℕ) × (w ≡ Op (Sink own))
end_op name (Op (Sink own)) h = (own, refl)
end_op name _ h = cc

map_sound : (w : Work) (out : List Expr) → is_map w ≡ true → w ≡ Op (Map out) → is_sound (Map out) ≡ true
map_sound w out h e = first_so (nat_le 1 (length out) && nat_le (length out) 16) (list_all is_plain out) (sym (ap is_map e) ∙ h)

-- a row after its first transform
record IsTail (us : List Transform) : Type 0 where
  ports : (i : ℕ) (t : Transform) → slice_get us i ≡ Some t → length (kinds_of t) ≡ 1
  sound : (i : ℕ) (t : Transform) → slice_get us i ≡ Some t → is_sound t ≡ true
  inner : (i : ℕ) (t : Transform) → slice_get us i ≡ Some t → suc i < length us → is_sink (Some t) ≡ false
  last : (i : ℕ) (t : Transform) → slice_get us i ≡ Some t → suc i ≡ length us → is_sink (Some t) ≡ true

only_end : (own : List ℕ) → IsTail (Sink own ∷ [])
only_end own = record {
  ports = λ i t e. one i t e (λ u. length (kinds_of u) ≡ 1) refl;
  sound = λ i t e. one i t e (λ u. is_sound u ≡ true) refl;
  inner = λ i t e h. absurd (omega arith);
  last = λ i t e h. one i t e (λ u. is_sink (Some u) ≡ true) refl;
}
  where
    one : (i : ℕ) (t : Transform) → slice_get (Sink own ∷ []) i ≡ Some t → (P : Transform → Type 0) → P (Sink own) → P t
    one zero t e P p = subst P (same_item (Sink own) t e) p
    one (suc i) t e P p = cc

map_first : (out : List Expr) (us : List Transform) → is_sound (Map out) ≡ true → IsTail us → 1 ≤ length us → IsTail (Map out ∷ us)
map_first out us sound tail some = record {
  ports = λ i t e. each i t e (λ u. length (kinds_of u) ≡ 1) refl (λ j f. tail.ports j t f);
  sound = λ i t e. each i t e (λ u. is_sound u ≡ true) sound (λ j f. tail.sound j t f);
  inner = inner;
  last = last;
}
  where
    each : (i : ℕ) (t : Transform) → slice_get (Map out ∷ us) i ≡ Some t → (P : Transform → Type 0) → P (Map out) → ((j : ℕ) → slice_get us j ≡ Some t → P t) → P t
    each zero t e P p f = subst P (same_item (Map out) t e) p
    each (suc i) t e P p f = f i e

    inner : (i : ℕ) (t : Transform) → slice_get (Map out ∷ us) i ≡ Some t → suc i < length (Map out ∷ us) → is_sink (Some t) ≡ false
    inner zero t e h = subst (λ u. is_sink (Some u) ≡ false) (same_item (Map out) t e) refl
    inner (suc i) t e h = tail.inner i t e (omega arith)

    last : (i : ℕ) (t : Transform) → slice_get (Map out ∷ us) i ≡ Some t → suc i ≡ length (Map out ∷ us) → is_sink (Some t) ≡ true
    last zero t e h = absurd (omega arith)
    last (suc i) t e h = tail.last i t e (omega arith)

source_first : (rows : List Row) (us : List Transform) → IsTail us → 1 ≤ length us → IsRow (Source rows ∷ us)
source_first rows us tail some = record { ports = ports; sound = sound; inner = inner; last = last }
  where
    ports : (i : ℕ) (t : Transform) → slice_get (Source rows ∷ us) i ≡ Some t → length (kinds_of t) ≡ length (one_before i)
    ports zero t e = subst (λ u. length (kinds_of u) ≡ 0) (same_item (Source rows) t e) refl
    ports (suc i) t e = tail.ports i t e

    sound : (i : ℕ) (t : Transform) → slice_get (Source rows ∷ us) i ≡ Some t → is_sound t ≡ true
    sound zero t e = subst (λ u. is_sound u ≡ true) (same_item (Source rows) t e) refl
    sound (suc i) t e = tail.sound i t e

    inner : (i : ℕ) (t : Transform) → slice_get (Source rows ∷ us) i ≡ Some t → suc i < length (Source rows ∷ us) → is_sink (Some t) ≡ false
    inner zero t e h = subst (λ u. is_sink (Some u) ≡ false) (same_item (Source rows) t e) refl
    inner (suc i) t e h = tail.inner i t e (omega arith)

    last : (i : ℕ) (t : Transform) → slice_get (Source rows ∷ us) i ≡ Some t → suc i ≡ length (Source rows ∷ us) → is_sink (Some t) ≡ true
    last zero t e h = absurd (omega arith)
    last (suc i) t e h = tail.last i t e (omega arith)

-- the vertices after the source
record IsRest (rest : List JobVertex) : Type 0 where
  tail : IsTail (table rest)
  size : length (table rest) ≡ length rest
  paths : paths rest ≡ names_of rest

rest_of : (name : List ℕ) (rest : List JobVertex) → links name rest ≡ true → IsRest rest
rest_of name [] h = cc
rest_of name (v ∷ []) h =
    let op = end_op v.name v.work (first_so (is_end v.name v.work) (follows name v.inputs) h) in
    let is : table (v ∷ []) ≡ Sink op.0 ∷ [] = table_more v [] (Sink op.0) op.1 in
    record { tail = subst IsTail (sym is) (only_end op.0); size = ap length is; paths = paths_more v [] (Sink op.0) op.1 }
rest_of name (v ∷ w ∷ vs) h =
    let first : (is_map v.work && follows name v.inputs) ≡ true = first_so (is_map v.work && follows name v.inputs) (links v.name (w ∷ vs)) h in
    let mapping : is_map v.work ≡ true = first_so (is_map v.work) (follows name v.inputs) first in
    let op = map_op v.work mapping in
    let rest = rest_of v.name (w ∷ vs) (second_so (is_map v.work && follows name v.inputs) (links v.name (w ∷ vs)) h) in
    let is : table (v ∷ w ∷ vs) ≡ Map op.0 ∷ table (w ∷ vs) = table_more v (w ∷ vs) (Map op.0) op.1 in
    let size : length (table (w ∷ vs)) ≡ length (w ∷ vs) = rest.size in
    record {
      tail = subst IsTail (sym is) (map_first op.0 (table (w ∷ vs)) (map_sound v.work op.0 mapping op.1) rest.tail (omega arith));
      size = ap length is ∙ ap suc size;
      paths = paths_more v (w ∷ vs) (Map op.0) op.1 ∙ ap (λ ns. v.name ∷ ns) rest.paths;
    }

pub record ChainIs (vs : List JobVertex) : Type 0 where
  pub row : IsRow (table vs)
  pub size : length (names_of vs) ≡ length (table vs)
  pub some : 1 ≤ length (names_of vs)
  pub few : length vs ≤ 512
  pub flat : flat_of vs ≡ row_of (table vs) (names_of vs)

some_rest : (name : List ℕ) (rest : List JobVertex) → links name rest ≡ true → 1 ≤ length rest
some_rest name [] h = cc
some_rest name (v ∷ vs) h = omega arith

pub chain_is : (vs : List JobVertex) → is_built vs ≡ true → ChainIs vs
chain_is [] h = cc
chain_is (s ∷ rest) h =
    let p = parts s rest h in
    let op = source_op s.work p.source in
    let r = rest_of s.name rest p.linked in
    let some : 1 ≤ length rest = some_rest s.name rest p.linked in
    let size : length (table rest) ≡ length rest = r.size in
    let is : table (s ∷ rest) ≡ Source op.0 ∷ table rest = table_more s rest (Source op.0) op.1 in
    let names : length (names_of rest) ≡ length rest = length-map rest (λ v. v.name) in
    let short : length rest ≤ 511 = p.short in
    record {
      row = subst IsRow (sym is) (source_first op.0 (table rest) r.tail (omega arith));
      size = ap suc (names ∙ sym size) ∙ sym (ap length is);
      some = omega arith;
      few = omega arith;
      flat = ap (λ ns. row_of (table (s ∷ rest)) ns) (paths_more s rest (Source op.0) op.1 ∙ ap (λ ns. s.name ∷ ns) r.paths);
    }

pub chain_flat : (vs : List JobVertex) → is_built vs ≡ true → IsFlat (row_of (table vs) (names_of vs))
chain_flat vs h =
    let c = chain_is vs h in
    let count : length (names_of vs) ≡ length vs = length-map vs (λ v. v.name) in
    let few : length vs ≤ 512 = c.few in
    flat_row (table vs) (names_of vs) c.row c.size c.some (omega arith)

-- the copies stand in a line
pub line_of : (k : ℕ) (names : List (List ℕ)) → map (λ x. x.inputs) (map_at copy_at k names) ≡ map_at (λ i x. one_before i) k (map_at copy_at k names)
line_of k [] = refl
line_of k (n ∷ ns) = ap (λ is. one_before k ∷ is) (line_of (k + 1) ns)
