-- What the flat job of a chain means: the rows that go through its maps reach its sink, and no fault does.
use Rattle.std.proofs.Common.{arith, ◌≡◌, ◌∙◌, ap, sym, subst, refl, ℕ, suc, ◌+◌, ◌≤◌, List, [], ◌∷◌, ◌++◌, length, map, slice_get, true, ◌&&◌, nat_le, Option, Some, Ok, length-append}
use Rattle.std.proofs.Math.Seq.{get_or-append_seam}
use Rattle.std.specs.Cmp.{first_so, second_so}
use Rattle.std.specs.Cmp.Lexicographic.{same_text as same_bytes}
use Rattle.std.specs.List.{flat_map, list_all}
use Rattle.nemo_value.specs.Ascending.{ascending}
use Rattle.nemo_value.specs.declared.expr.Expr.{Expr}
use Rattle.nemo_transform.specs.Brought.{arisen, at, port}
use Rattle.nemo_transform.specs.FaultOrder.{fault_cmp}
use Rattle.nemo_transform.specs.Gives.{Row, is_filled, map_answers, rows_in}
use Rattle.nemo_transform.specs.declared.transform.Transform.{Transform}
use Rattle.nemo_transform.specs.declared.transform.Transform.TheVariants.{Source, Map, Sink}
use Rattle.nemo_transform.proofs.MapSteps.{rows_in-rows, no_fault-rows}
use Rattle.nemo_ir.specs.Along.{along}
use Rattle.nemo_ir.specs.Flat.{FlatForm, sink_name, transform_of}
use Rattle.nemo_ir.specs.Value.{ByNumber, at_or_nothing, value, value_step}
use Rattle.nemo_ir.specs.declared.flat.FlatVertex.{FlatVertex}
use Rattle.nemo_job.specs.Chain.{follows, has_fields, is_built, is_chain, is_end, is_map, is_plain, links, names_of, rows_filled as has_rows}
use Rattle.nemo_job.specs.ChainRows.{rows_after, rows_through}
use Rattle.nemo_job.specs.declared.vertex.JobVertex.{JobVertex}
use Rattle.nemo_job.specs.declared.vertex.Work.{Work}
use Rattle.nemo_job.specs.declared.vertex.Work.TheVariants.{Op}
use Rattle.nemo_job.proofs.Plain.{no_faults, rows_filled}
use Rattle.nemo_base.specs.Numbered.{map_at}
use Rattle.nemo_flat.specs.Flat.{copy_at, flat_of}
use Rattle.nemo_ir.specs.Meaning.{Reached, by_path, flat_faults, flat_rows, reached, under}
use Rattle.nemo_job.proofs.ChainMean.{parts}
use Rattle.nemo_flat.proofs.ChainFlat.{chain_is, end_op, map_op, nameless, row_of, source_op, table, table_more}
use Rattle.nemo_ir.proofs.Places.{map_at-length, map_at-whole, ended, from_none, got, last_only, same_item}
use Rattle.nemo_job.proofs.ChainMean.{chain_rows, chain_sound}
use Rattle.nemo_transform.specs.ArisenOrder.{place_cmp}
use Rattle.nemo_job.specs.Sinks.{job_faults, job_rows}
use Rattle.nemo_value.specs.SinkOrder.{in_order}
use Rattle.std.proofs.lemmas.List.{length-map}

-- rows without faults
abbrev pub pure : List Row → ByNumber
pure rows = record { rows = rows; faults = [] }

---- what each vertex gives

pub source_gives : (x : ℕ) (rows : List Row) → at x (Source rows) [] ≡ pure (rows_after (Op (Source rows)) [])
source_gives x rows = ap (λ fs. record { rows = rows_in (map Ok rows); faults = map (arisen x) (ascending fault_cmp fs) }) (no_fault-rows rows)

pub map_gives : (x : ℕ) (out : List Expr) (rows : List Row) → list_all is_plain out ≡ true → list_all is_filled rows ≡ true → at x (Map out) (pure rows ∷ []) ≡ pure (rows_after (Op (Map out)) rows)
map_gives x out rows plain f = ap (λ fs. record { rows = rows_in (map_answers out rows); faults = map (arisen x) (ascending fault_cmp fs) }) (no_faults out rows plain f)

pub end_gives : (x : ℕ) (own : List ℕ) (rows : List Row) → at x (Sink own) (pure rows ∷ []) ≡ pure rows
end_gives x own rows = λ i. record { rows = rows_in-rows rows i; faults = map (arisen x) (ascending fault_cmp (no_fault-rows rows i)) }

-- one vertex more, on what the vertex before it gives
one_more : (flat : FlatForm) (done : List ByNumber) (j : ℕ) (name : List ℕ) (t : Transform) (rows given : List Row) → length done ≡ suc j → slice_get flat.transforms (suc j) ≡ Some t → port done j ≡ pure rows
    → at (suc j) t (pure rows ∷ []) ≡ pure given → value_step flat done (copy_at (suc j) name) ≡ pure given
one_more flat done j name t rows given size is here gives =
    ap (λ o. at_or_nothing (length done) o (port done j ∷ [])) is ∙ ap (λ n. at n t (port done j ∷ [])) size ∙ ap (λ f. at (suc j) t (f ∷ [])) here ∙ gives

last_port : (done : List ByNumber) (f : ByNumber) (j : ℕ) → length done ≡ j → port (done ++ f ∷ []) j ≡ f
last_port done f j size = ap (λ n. port (done ++ f ∷ []) n) (sym size) ∙ get_or-append_seam done f [] _

---- along the chain

-- the transforms of the vertices that are left stand in the table from a place on
abbrev pub StandFrom : List Transform → ℕ → List Transform → Type 0
StandFrom all k us = (i : ℕ) (t : Transform) → slice_get us i ≡ Some t → slice_get all (k + i) ≡ Some t

links_more : (name : List ℕ) (v : JobVertex) (ms : List JobVertex) (k : JobVertex)
    → links name (v ∷ (ms ++ k ∷ [])) ≡ (is_map v.work && follows name v.inputs && links v.name (ms ++ k ∷ []))
links_more name v [] k = refl
links_more name v (m ∷ ms) k = refl

-- a map of the chain, and what comes after it
pub record IsLink (name : List ℕ) (m : JobVertex) (rest : List JobVertex) : Type 0 where
  pub out : List Expr
  pub op : m.work ≡ Op (Map out)
  pub plain : list_all is_plain out ≡ true
  pub some : nat_le 1 (length out) ≡ true
  pub linked : links m.name rest ≡ true

pub link_of : (name : List ℕ) (m : JobVertex) (ms : List JobVertex) (k : JobVertex) → links name (m ∷ (ms ++ k ∷ [])) ≡ true → IsLink name m (ms ++ k ∷ [])
link_of name m ms k h =
    let opened : (is_map m.work && follows name m.inputs && links m.name (ms ++ k ∷ [])) ≡ true = sym (links_more name m ms k) ∙ h in
    let first : (is_map m.work && follows name m.inputs) ≡ true = first_so (is_map m.work && follows name m.inputs) (links m.name (ms ++ k ∷ [])) opened in
    let mapping : is_map m.work ≡ true = first_so (is_map m.work) (follows name m.inputs) first in
    let op = map_op m.work mapping in
    let is : (nat_le 1 (length op.0) && nat_le (length op.0) 16 && list_all is_plain op.0) ≡ true = sym (ap is_map op.1) ∙ mapping in
    record {
      out = op.0;
      op = op.1;
      plain = second_so (nat_le 1 (length op.0) && nat_le (length op.0) 16) (list_all is_plain op.0) is;
      some = first_so (nat_le 1 (length op.0)) (nat_le (length op.0) 16) (first_so (nat_le 1 (length op.0) && nat_le (length op.0) 16) (list_all is_plain op.0) is);
      linked = second_so (is_map m.work && follows name m.inputs) (links m.name (ms ++ k ∷ [])) opened;
    }

first_stands : (all : List Transform) (k : ℕ) (t : Transform) (us : List Transform) → StandFrom all k (t ∷ us) → slice_get all k ≡ Some t
first_stands all k t us stand = let e : k ≡ k + 0 = omega arith in ap (slice_get all) e ∙ stand 0 t refl

others_stand : (all : List Transform) (k : ℕ) (t : Transform) (us : List Transform) → StandFrom all k (t ∷ us) → StandFrom all (suc k) us
others_stand all k t us stand = λ i u e. let n : suc k + i ≡ k + suc i = omega arith in ap (slice_get all) n ∙ stand (suc i) u e

end_own : (name own : List ℕ) (w : Work) → is_end name w ≡ true → w ≡ Op (Sink own) → own ≡ name
end_own name own w h e = same_bytes own name (sym (sym (ap (is_end name) e) ∙ h))

chain_along : (flat : FlatForm) (ms : List JobVertex) (k : JobVertex) (name : List ℕ) (done : List ByNumber) (j : ℕ) (rows : List Row)
    → links name (ms ++ k ∷ []) ≡ true → StandFrom flat.transforms (suc j) (table (ms ++ k ∷ [])) → length done ≡ suc j → port done j ≡ pure rows → list_all is_filled rows ≡ true
    → port (along (value_step flat) done (map_at copy_at (suc j) (names_of (ms ++ k ∷ [])))) (suc j + length ms) ≡ pure (rows_through ms rows)
chain_along flat [] k name done j rows linked stand size here filled =
    let op = end_op k.name k.work (first_so (is_end k.name k.work) (follows name k.inputs) linked) in
    let stands : StandFrom flat.transforms (suc j) (Sink op.0 ∷ []) = subst (StandFrom flat.transforms (suc j)) (table_more k [] (Sink op.0) op.1) stand in
    let f = value_step flat done (copy_at (suc j) k.name) in
    let at_end : suc j + 0 ≡ suc j = omega arith in
    ap (port (done ++ f ∷ [])) at_end ∙ last_port done f (suc j) size
    ∙ one_more flat done j k.name (Sink op.0) rows rows size (first_stands flat.transforms (suc j) (Sink op.0) [] stands) here (end_gives (suc j) op.0 rows)
chain_along flat (m ∷ ms) k name done j rows linked stand size here filled =
    let l = link_of name m ms k linked in
    let rest = ms ++ k ∷ [] in
    let stands : StandFrom flat.transforms (suc j) (Map l.out ∷ table rest) = subst (StandFrom flat.transforms (suc j)) (table_more m rest (Map l.out) l.op) stand in
    let f = value_step flat done (copy_at (suc j) m.name) in
    let given = rows_after (Op (Map l.out)) rows in
    let gives : f ≡ pure given = one_more flat done j m.name (Map l.out) rows given size (first_stands flat.transforms (suc j) (Map l.out) (table rest) stands) here (map_gives (suc j) l.out rows l.plain filled) in
    let longer : length (done ++ f ∷ []) ≡ suc (suc j) = let e : length (done ++ f ∷ []) ≡ length done + 1 = length-append done (f ∷ []) in omega arith in
    let up : suc j + 1 ≡ suc (suc j) = omega arith in
    let ends : suc j + suc (length ms) ≡ suc (suc j) + length ms = omega arith in
    ap (λ n. port (along (value_step flat) (done ++ f ∷ []) (map_at copy_at n (names_of rest))) (suc j + suc (length ms))) up
    ∙ ap (port (along (value_step flat) (done ++ f ∷ []) (map_at copy_at (suc (suc j)) (names_of rest)))) ends
    ∙ chain_along flat ms k m.name (done ++ f ∷ []) (suc j) given l.linked (others_stand flat.transforms (suc j) (Map l.out) (table rest) stands) longer
    (last_port done f (suc j) size ∙ gives) (rows_filled l.out rows l.some)
    ∙ ap (λ w. pure (rows_through ms (rows_after w rows))) (sym l.op)

pub table_last : (ms : List JobVertex) (k : JobVertex) (name : List ℕ) → links name (ms ++ k ∷ []) ≡ true → slice_get (table (ms ++ k ∷ [])) (length ms) ≡ Some (Sink k.name)
table_last [] k name h =
    let is : is_end k.name k.work ≡ true = first_so (is_end k.name k.work) (follows name k.inputs) h in
    let op = end_op k.name k.work is in
    ap (λ us. slice_get us 0) (table_more k [] (Sink op.0) op.1) ∙ ap (λ n. Some (Sink n)) (end_own k.name op.0 k.work is op.1)
table_last (m ∷ ms) k name h =
    let l = link_of name m ms k h in
    ap (λ us. slice_get us (suc (length ms))) (table_more m (ms ++ k ∷ []) (Map l.out) l.op) ∙ table_last ms k m.name l.linked

---- the whole chain

pub source_filled : (w : Work) (rows : List Row) → w ≡ Op (Source rows) → has_rows w ≡ true → list_all is_filled (rows_after (Op (Source rows)) []) ≡ true
source_filled w rows e h = ap (list_all is_filled) (rows_in-rows rows) ∙ sym (ap has_rows e) ∙ h

abbrev pub final : JobVertex → List JobVertex → List Row
final s ms = rows_through ms (rows_after s.work [])

pub end_value : (s : JobVertex) (ms : List JobVertex) (k : JobVertex) → is_built (s ∷ (ms ++ k ∷ [])) ≡ true
    → value (row_of (table (s ∷ (ms ++ k ∷ []))) (names_of (s ∷ (ms ++ k ∷ [])))) (suc (length ms)) ≡ pure (final s ms)
end_value s ms k h =
    let rest = ms ++ k ∷ [] in
    let vs = s ∷ rest in
    let p = parts s rest h in
    let op = source_op s.work p.source in
    let flat = row_of (table vs) (names_of vs) in
    let is : table vs ≡ Source op.0 ∷ table rest = table_more s rest (Source op.0) op.1 in
    let given = rows_after (Op (Source op.0)) [] in
    let f = value_step flat [] (copy_at 0 s.name) in
    let gives : f ≡ pure given = ap (λ us. at_or_nothing 0 (slice_get us 0) []) is ∙ source_gives 0 op.0 in
    let stands : StandFrom (table vs) 1 (table rest) = subst (λ us. StandFrom us 1 (table rest)) (sym is) (others_stand (Source op.0 ∷ table rest) 0 (Source op.0) (table rest) (λ i u e. ap (slice_get (Source op.0 ∷ table rest)) (from_none i) ∙ e)) in
    let ends : suc (length ms) ≡ suc 0 + length ms = omega arith in
    let filled : has_rows s.work ≡ true = first_so (has_fields s) (list_all has_fields rest) (second_so (is_chain vs) (list_all has_fields vs) h) in
    ap (port (along (value_step flat) (f ∷ []) (map_at copy_at 1 (names_of rest)))) ends
    ∙ chain_along flat ms k s.name (f ∷ []) 0 given p.linked stands refl gives (source_filled s.work op.0 op.1 filled)
    ∙ ap (λ w. pure (rows_through ms (rows_after w []))) (sym op.1)

-- the rows reach the sink
pub one_reached : (s : JobVertex) (ms : List JobVertex) (k : JobVertex) → is_built (s ∷ (ms ++ k ∷ [])) ≡ true
    → reached (flat_of (s ∷ (ms ++ k ∷ []))) ≡ record { name = k.name; brought = pure (final s ms) } ∷ []
one_reached s ms k h =
    let rest = ms ++ k ∷ [] in
    let vs = s ∷ rest in
    let p = parts s rest h in
    let c = chain_is vs h in
    let op = source_op s.work p.source in
    let flat = row_of (table vs) (names_of vs) in
    let r : Reached = record { name = k.name; brought = pure (final s ms) } in
    let count : length (map_at copy_at 0 (names_of vs)) ≡ length (names_of vs) = map_at-length copy_at 0 (names_of vs) in
    let named : length (names_of vs) ≡ length vs = length-map vs (λ v. v.name) in
    let long : length vs ≡ suc (length ms + 1) = ap suc (length-append ms (k ∷ [])) in
    let some : 1 ≤ length (names_of vs) = c.some in
    let sink : slice_get (table vs) (suc (length ms)) ≡ Some (Sink k.name) = ap (λ us. slice_get us (suc (length ms))) (table_more s rest (Source op.0) op.1) ∙ table_last ms k s.name p.linked in
    let make : ℕ → FlatVertex → Option Reached = λ i x. under (value flat i) (sink_name (transform_of flat x)) in
    ap reached c.flat
    ∙ last_only make 0 (map_at copy_at 0 (names_of vs)) r
    (λ i x e l. ap (λ n. make n x) (from_none i) ∙ ap (under (value flat i)) (nameless (table vs) (names_of vs) c.row c.size i x e (omega arith)))
    (λ i x e l.
    let n = got (names_of vs) i (omega arith) in
    let is : copy_at i n.0 ≡ x = same_item (copy_at i n.0) x (sym (map_at-whole copy_at (names_of vs) i n.0 n.1) ∙ e) in
    let here : i ≡ suc (length ms) = omega arith in
    ap (λ m. make m x) (from_none i) ∙ ap (λ y. under (value flat i) (sink_name (slice_get (table vs) y.transform))) (sym is)
    ∙ ap (λ m. under (value flat m) (sink_name (slice_get (table vs) m))) here
    ∙ ap (λ o. under (value flat (suc (length ms))) (sink_name o)) sink
    ∙ ap (λ f. Some (record { name = k.name; brought = f })) (end_value s ms k h))
    (omega arith)

---- the law

pub split : (vs : List JobVertex) → is_built vs ≡ true → (P : List JobVertex → Type 0) → ((s : JobVertex) (ms : List JobVertex) (k : JobVertex) → is_built (s ∷ (ms ++ k ∷ [])) ≡ true → P (s ∷ (ms ++ k ∷ []))) → P vs
split [] h P f = cc
split (s ∷ []) h P f = let none = (parts s [] h).linked in cc
split (s ∷ v ∷ vs) h P f =
    let e = ended v vs in
    subst (λ rest. P (s ∷ rest)) (sym e.is) (f s e.front e.back (sym (ap (λ rest. is_built (s ∷ rest)) e.is) ∙ h))

pub keeps_rows : (vs : List JobVertex) → is_built vs ≡ true → flat_rows (flat_of vs) ≡ job_rows vs
keeps_rows vs h = split vs h (λ us. flat_rows (flat_of us) ≡ job_rows us)
    (λ s ms k b.
    ap (λ rs. in_order (map (λ r. record { name = r.name; rows = r.brought.rows }) rs)) (one_reached s ms k b) ∙ sym (chain_rows s ms k b))

pub keeps_none : (vs : List JobVertex) → is_built vs ≡ true → flat_faults (flat_of vs) ≡ []
keeps_none vs h = split vs h (λ us. flat_faults (flat_of us) ≡ [])
    (λ s ms k b.
    ap (λ rs. map (by_path (flat_of (s ∷ (ms ++ k ∷ [])))) (ascending place_cmp (flat_map (λ r. r.brought.faults) rs))) (one_reached s ms k b))

pub keeps_faults : (vs : List JobVertex) → is_built vs ≡ true → flat_faults (flat_of vs) ≡ job_faults vs
keeps_faults vs h = keeps_none vs h ∙ sym (split vs h (λ us. job_faults us ≡ []) chain_sound)
