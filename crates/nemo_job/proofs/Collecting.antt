-- What the sinks got, sink by sink.
use Rattle.std.proofs.Common.{◌≡◌, ◌⊎◌, inl, inr, true, ◌∙◌, refl, sym, ap, subst, ℕ, ◌+◌, ◌<◌, ◌≤◌, List, [], ◌∷◌, ◌++◌, length, map, drop, get_or, Option, Some, None, false, cond, arith, append_assoc, add-one, zero-add}
use Rattle.std.specs.Prelude.{slice_get, option_map, option_to_list, ◌≢◌}
use Rattle.std.specs.List.{zip}
use Rattle.std.proofs.Math.ListN.{drop_of_length-le}
use Rattle.std.proofs.Math.Seq.{drop-cons}
use Rattle.std.proofs.lemmas.Slice.Zip.{length-zip, get_or-zip}
use Rattle.std.proofs.lemmas.List.{append-nil, get_or-map, length-map}
use Rattle.std.proofs.lemmas.Option.{slice_get-map}
use Rattle.nemo_value.specs.Order.{record_cmp}
use Rattle.nemo_value.specs.Sorting.{sorted}
use Rattle.nemo_value.specs.declared.record.SinkRows.{SinkRows}
use Rattle.nemo_value.specs.SinkOrder.{with_sorted}
use Rattle.nemo_transform.specs.Brought.{Arisen, port, nothing}
use Rattle.nemo_transform.specs.Gives.{Row}
use Rattle.nemo_transform.specs.declared.transform.Transform.{Transform}
use Rattle.nemo_transform.specs.declared.transform.Transform.TheVariants.{Source, Map, Filter, Emit, Words, Union, Reduce, Distinct, Join, SideJoin, Sink}
use Rattle.nemo_transform.specs.FirstFault.{first_fault, arisen_at, lesser_by}
use Rattle.nemo_transform.specs.ArisenOrder.{place_cmp}
use Rattle.nemo_transform.specs.Through.{Batch}
use Rattle.nemo_transform.specs.Sinks.{does_sink}
use Rattle.nemo_transform.proofs.FirstFaults.{first_fault_both, lesser_none, lesser_joins, place_strict}
use Rattle.nemo_job.specs.HeldRows.{rows_held}
use Rattle.nemo_job.specs.ByPlace.{ByPlace, Placed, values}
use Rattle.nemo_job.specs.Held.{IsGiven, faults_given, known, known_value, node_of, sink_at, sinks_given}
use Rattle.nemo_job.specs.declared.held.Held.{Held}
use Rattle.nemo_job.specs.declared.copies.Node.{Node}
use Rattle.nemo_job.proofs.Feeding.{read_at, some_one}
use Rattle.nemo_job.proofs.Values.{length_values}

-- what the vertices from an index on give, behind what those before it gave
pub record SoFar (ps : List Placed) (vals : List ByPlace) (i : ℕ) (sinks : List SinkRows) (first : Option (Arisen ℕ)) : Type 0 where
  pub rest : sinks ++ map with_sorted (sinks_given (drop i ps) (drop i vals)) ≡ map with_sorted (sinks_given ps vals)
  pub least : lesser_by place_cmp first (first_fault (faults_given (drop i ps) (drop i vals))) ≡ first_fault (faults_given ps vals)

from_here : {X : Type 0} (xs : List X) (i : ℕ) (d : X) → i < length xs → drop i xs ≡ get_or xs i d ∷ drop (i + 1) xs
from_here xs i d low = rw add-one (drop-cons xs i d low)

pub so_far_none : (ps : List Placed) (vals : List ByPlace) → SoFar ps vals 0 [] None
so_far_none ps vals = record { rest = refl; least = refl }

no_sink : (t : Transform) (rows : List Row) → ((name : List ℕ) → t ≢ Sink name) → (sink_at t rows ≡ None) × (does_sink t ≡ false)
no_sink (Source own) rows other = (refl, refl)
no_sink (Map out) rows other = (refl, refl)
no_sink (Filter cond) rows other = (refl, refl)
no_sink (Emit outs) rows other = (refl, refl)
no_sink (Words field) rows other = (refl, refl)
no_sink (Union n) rows other = (refl, refl)
no_sink (Reduce by field) rows other = (refl, refl)
no_sink Distinct rows other = (refl, refl)
no_sink Join rows other = (refl, refl)
no_sink SideJoin rows other = (refl, refl)
no_sink (Sink name) rows other = absurd (other name refl)

a_sink : (t : Transform) → ((name : List ℕ) × (t ≡ Sink name)) ⊎ ((name : List ℕ) → t ≢ Sink name)
a_sink (Source own) = inr (λ name e. cc e)
a_sink (Map out) = inr (λ name e. cc e)
a_sink (Filter cond) = inr (λ name e. cc e)
a_sink (Emit outs) = inr (λ name e. cc e)
a_sink (Words field) = inr (λ name e. cc e)
a_sink (Union n) = inr (λ name e. cc e)
a_sink (Reduce by field) = inr (λ name e. cc e)
a_sink Distinct = inr (λ name e. cc e)
a_sink Join = inr (λ name e. cc e)
a_sink SideJoin = inr (λ name e. cc e)
a_sink (Sink name) = inl (name, refl)

module _ (ps : List Placed) (vals : List ByPlace) (i : ℕ) (p : Placed) (low : i < length ps) (valued : i < length vals) (is : p ≡ get_or ps i p) where
  places : drop i ps ≡ p ∷ drop (i + 1) ps
  places = from_here ps i p low ∙ ap (λ q. q ∷ drop (i + 1) ps) (sym is)

  gives : drop i vals ≡ port vals i ∷ drop (i + 1) vals
  gives = from_here vals i nothing valued

  sinks_here : sinks_given (drop i ps) (drop i vals) ≡ option_to_list (sink_at p.transform (port vals i).rows) ++ sinks_given (drop (i + 1) ps) (drop (i + 1) vals)
  sinks_here = λ z. sinks_given (places z) (gives z)

  faults_here : faults_given (drop i ps) (drop i vals) ≡ cond (does_sink p.transform) (port vals i).faults [] ++ faults_given (drop (i + 1) ps) (drop (i + 1) vals)
  faults_here = λ z. faults_given (places z) (gives z)

  -- a vertex that is no sink
  so_far_other : (sinks : List SinkRows) (first : Option (Arisen ℕ)) → ((name : List ℕ) → p.transform ≢ Sink name) → SoFar ps vals i sinks first → SoFar ps vals (i + 1) sinks first
  so_far_other sinks first other so =
      let none = no_sink p.transform (port vals i).rows other in
      record {
        rest = ap (λ l. sinks ++ map with_sorted l) (sym (sinks_here ∙ ap (λ o. option_to_list o ++ sinks_given (drop (i + 1) ps) (drop (i + 1) vals)) none.0)) ∙ so.rest;
        least = ap (λ l. lesser_by place_cmp first (first_fault l)) (sym (faults_here ∙ ap (λ b. cond b (port vals i).faults [] ++ faults_given (drop (i + 1) ps) (drop (i + 1) vals)) none.1)) ∙ so.least;
      }

  -- a sink
  so_far_sink : (sinks more : List SinkRows) (first least : Option (Arisen ℕ)) (name : List ℕ) (sink : SinkRows) → p.transform ≡ Sink name → sink ≡ record { name = name; rows = sorted record_cmp (port vals i).rows }
      → more ≡ sinks ++ sink ∷ [] → least ≡ lesser_by place_cmp first (first_fault (port vals i).faults) → SoFar ps vals i sinks first → SoFar ps vals (i + 1) more least
  so_far_sink sinks more first least name sink does got put lower so =
      let others = sinks_given (drop (i + 1) ps) (drop (i + 1) vals) in
      let faults = faults_given (drop (i + 1) ps) (drop (i + 1) vals) in
      let here : map with_sorted (sinks_given (drop i ps) (drop i vals)) ≡ sink ∷ map with_sorted others =
      ap (map with_sorted) (sinks_here ∙ ap (λ t. option_to_list (sink_at t (port vals i).rows) ++ others) does) ∙ ap (λ s. s ∷ map with_sorted others) (sym got) in
      let brought : faults_given (drop i ps) (drop i vals) ≡ (port vals i).faults ++ faults =
      faults_here ∙ ap (λ t. cond (does_sink t) (port vals i).faults [] ++ faults) does in
      record {
        rest = ap (λ l. l ++ map with_sorted others) put ∙ append_assoc sinks (sink ∷ []) (map with_sorted others) ∙ ap (λ l. sinks ++ l) (sym here) ∙ so.rest;
        least = ap (λ l. lesser_by place_cmp l (first_fault faults)) lower
            ∙ sym (lesser_joins place_cmp place_strict first (first_fault (port vals i).faults) (first_fault faults))
            ∙ ap (lesser_by place_cmp first) (sym (ap first_fault brought ∙ first_fault_both (port vals i).faults faults))
            ∙ so.least;
      }

  -- what a vertex gave, added
  pub so_far_added : (sinks more : List SinkRows) (first own least : Option (Arisen ℕ)) (rows : List Row) → (does_sink p.transform ≡ true → record { rows = rows; first = own } ≡ known_value (port vals i))
      → more ≡ sinks ++ map with_sorted (option_to_list (sink_at p.transform rows)) → least ≡ lesser_by place_cmp first (cond (does_sink p.transform) own None)
      → SoFar ps vals i sinks first → SoFar ps vals (i + 1) more least
  so_far_added sinks more first own least rows gave put lower so = go (a_sink p.transform)
    where
      go : ((name : List ℕ) × (p.transform ≡ Sink name)) ⊎ ((name : List ℕ) → p.transform ≢ Sink name) → SoFar ps vals (i + 1) more least
      go (inl s) =
          let known : record { rows = rows; first = own } ≡ known_value (port vals i) = gave (ap does_sink s.1) in
          so_far_sink sinks more first least s.0 (record { name = s.0; rows = sorted record_cmp (port vals i).rows }) s.1 refl
          (put ∙ ap (λ t. sinks ++ map with_sorted (option_to_list (sink_at t rows))) s.1 ∙ ap (λ (k : Batch). sinks ++ record { name = s.0; rows = sorted record_cmp k.rows } ∷ []) known)
          (lower ∙ ap (λ t. lesser_by place_cmp first (cond (does_sink t) own None)) s.1 ∙ ap (λ (k : Batch). lesser_by place_cmp first k.first) known) so
      go (inr s) =
          let none = no_sink p.transform rows s in
          subst (λ m. SoFar ps vals (i + 1) m least) (sym (put ∙ ap (λ o. sinks ++ map with_sorted (option_to_list o)) none.0 ∙ append-nil sinks))
          (subst (λ l. SoFar ps vals (i + 1) sinks l) (sym (lower ∙ ap (λ b. lesser_by place_cmp first (cond b own None)) none.1 ∙ lesser_none place_cmp place_strict first))
          (so_far_other sinks first s so))

-- after the last vertex
pub so_far_all : (ps : List Placed) (vals : List ByPlace) (i : ℕ) (sinks : List SinkRows) (first : Option (Arisen ℕ)) → length ps ≤ i → SoFar ps vals i sinks first → (sinks ≡ map with_sorted (sinks_given ps vals)) × (first ≡ first_fault (faults_given ps vals))
so_far_all ps vals i sinks first end so =
    let none : drop i ps ≡ [] = drop_of_length-le ps end in (
      sym (append-nil sinks) ∙ ap (λ l. sinks ++ map with_sorted (sinks_given l (drop i vals))) (sym none) ∙ so.rest,
      sym (lesser_none place_cmp place_strict first) ∙ ap (λ l. lesser_by place_cmp first (first_fault (faults_given l (drop i vals)))) (sym none) ∙ so.least,
    )

-- what a sink was given
pub given_is : (nodes : List Node) (vals : List ByPlace) (held : List Held) (i : ℕ) (node : Node) (given : Held) → IsGiven (map node_of nodes) vals (map known held) → i < length nodes → i < length held
    → node ≡ get_or nodes i node → given ≡ get_or held i given → does_sink node.transform.now ≡ true → known given ≡ known_value (port vals i)
given_is nodes vals held i node given so low within at is does =
    let place : slice_get (map node_of nodes) i ≡ Some (node_of node) = slice_get-map node_of nodes i ∙ ap (option_map node_of) (read_at nodes i node low at) in
    let here : slice_get (map known held) i ≡ Some (known given) = slice_get-map known held i ∙ ap (option_map known) (read_at held i given within is) in
    some_one _ _ (sym here ∙ so.sinks i (node_of node) place does)

-- the index of a pair of a zip
pub zipped : (nodes : List Node) (held : List Held) (i : ℕ) (node : Node) (given : Held) → length held ≡ length nodes → (i < length (zip nodes held)) × ((node, given) ≡ get_or (zip nodes held) i (node, given)) → (i < length nodes) × (i < length held) × (node ≡ get_or nodes i node) × (given ≡ get_or held i given)
zipped nodes held i node given size at =
    let long = length-zip nodes held in
    let low : i < length nodes = (let l = at.0 in omega arith) in
    let within : i < length held = omega arith in
    let both = at.1 ∙ get_or-zip nodes held i (node, given) low within in
    (low, within, ap (λ q. q.0) both, ap (λ q. q.1) both)

valued_all : (ps : List Placed) → length (values ps) ≡ length ps
valued_all ps = length_values [] ps ∙ zero-add (length ps)

module _ (nodes : List Node) (held : List Held) (i : ℕ) (node : Node) (given : Held) (so : IsGiven (map node_of nodes) (values (map node_of nodes)) (map known held)) (at : (i < length (zip nodes held)) × ((node, given) ≡ get_or (zip nodes held) i (node, given))) where
  here : (i < length nodes) × (i < length held) × (node ≡ get_or nodes i node) × (given ≡ get_or held i given)
  here = zipped nodes held i node given (sym (length-map held known) ∙ so.size ∙ length-map nodes node_of) at

  low : i < length (map node_of nodes)
  low = subst (λ n. i < n) (sym (length-map nodes node_of)) here.0

  placed_is : node_of node ≡ get_or (map node_of nodes) i (node_of node)
  placed_is = ap node_of here.2 ∙ sym (get_or-map node_of nodes i node (node_of node) here.0)

  valued : i < length (values (map node_of nodes))
  valued = subst (λ n. i < n) (sym (valued_all (map node_of nodes))) low

  -- one vertex more
  pub collected_added : (sinks more : List SinkRows) (first least : Option (Arisen ℕ)) → more ≡ sinks ++ map with_sorted (option_to_list (sink_at node.transform.now (rows_held given.rows)))
      → least ≡ lesser_by place_cmp first (cond (does_sink node.transform.now) (option_map arisen_at given.first) None)
      → SoFar (map node_of nodes) (values (map node_of nodes)) i sinks first → SoFar (map node_of nodes) (values (map node_of nodes)) (i + 1) more least
  collected_added sinks more first least put lower before =
      so_far_added (map node_of nodes) (values (map node_of nodes)) i (node_of node) low valued placed_is sinks more first (option_map arisen_at given.first) least (rows_held given.rows)
      (given_is nodes (values (map node_of nodes)) held i node given so here.0 here.1 here.2 here.3) put lower before

pub collected_all : (nodes : List Node) (held : List Held) (i : ℕ) (sinks : List SinkRows) (first : Option (Arisen ℕ)) → IsGiven (map node_of nodes) (values (map node_of nodes)) (map known held) → i ≡ length (zip nodes held) → SoFar (map node_of nodes) (values (map node_of nodes)) i sinks first
    → (sinks ≡ map with_sorted (sinks_given (map node_of nodes) (values (map node_of nodes)))) × (first ≡ first_fault (faults_given (map node_of nodes) (values (map node_of nodes))))
collected_all nodes held i sinks first so end before =
    let size : length held ≡ length nodes = sym (length-map held known) ∙ so.size ∙ length-map nodes node_of in
    let long = length-zip nodes held in
    let all = length-map nodes node_of in
    so_far_all (map node_of nodes) (values (map node_of nodes)) i sinks first (omega arith) before
