-- What the vertices of a line give, one after another.
use Rattle.std.proofs.Common.{◌≡◌, ◌∙◌, refl, sym, ap, subst, ℕ, suc, ◌+◌, List, [], ◌∷◌, ◌++◌, length, map, true, Some, arith, append-nil}
use Rattle.std.specs.Prelude.{slice_get}
use Rattle.nemo_transform.specs.ArisenOrder.{place_cmp}
use Rattle.nemo_transform.specs.Brought.{arisen, at, port}
use Rattle.nemo_transform.specs.Gives.{Answer, answers, own_faults, rows_in}
use Rattle.nemo_transform.specs.Ports.{kinds_of}
use Rattle.nemo_transform.specs.Sinks.{does_sink}
use Rattle.nemo_transform.specs.declared.transform.Transform.{Transform}
use Rattle.nemo_transform.specs.declared.transform.Transform.TheVariants.{Source, Map, Filter, Emit, Words, Union, Reduce, Distinct, Join, SideJoin, Sink}
use Rattle.nemo_transform.specs.FirstFault.{first_fault, lesser_by}
use Rattle.nemo_transform.specs.Through.{all_through, through}
use Rattle.nemo_transform.specs.RowByRow.{goes_by_row}
use Rattle.nemo_transform.proofs.FirstFaults.{first_fault_both}
use Rattle.nemo_job.specs.ByPlace.{ByPlace, Placed, values}
use Rattle.nemo_job.specs.Held.{IsLower, known_value, node_of, transform_of}
use Rattle.nemo_job.specs.declared.copies.Node.{Node}
use Rattle.nemo_job.proofs.Values.{value_is}

shape : (place : ℕ) (f : ByPlace) (given : List Answer) → known_value (record { rows = rows_in given; faults = (f.faults ++ []) ++ map (arisen place) (own_faults given) }) ≡ record { rows = rows_in given; first = lesser_by place_cmp (first_fault f.faults) (first_fault (map (arisen place) (own_faults given))) }
shape place f given =
    let own = map (arisen place) (own_faults given) in
    let first : first_fault ((f.faults ++ []) ++ own) ≡ lesser_by place_cmp (first_fault f.faults) (first_fault own) = ap (λ l. first_fault (l ++ own)) (append-nil f.faults) ∙ first_fault_both f.faults own in
    λ i. record { rows = rows_in given; first = first i }

-- a vertex that goes row by row
known_at : (place : ℕ) (t : Transform) (f : ByPlace) → goes_by_row t ≡ true → known_value (at place t (f ∷ [])) ≡ through place t (known_value f)
known_at place (Source rows) f h = cc
known_at place (Map out) f h = shape place f (answers (Map out) f.rows [])
known_at place (Filter c) f h = shape place f (answers (Filter c) f.rows [])
known_at place (Emit outs) f h = shape place f (answers (Emit outs) f.rows [])
known_at place (Words field) f h = shape place f (answers (Words field) f.rows [])
known_at place (Union ports) f h = cc
known_at place (Reduce by field) f h = cc
known_at place Distinct f h = cc
known_at place Join f h = cc
known_at place SideJoin f h = cc
known_at place (Sink name) f h = cc

pub one_kind : (t : Transform) → goes_by_row t ≡ true → length (kinds_of t) ≡ 1
one_kind (Source rows) h = cc
one_kind (Map out) h = refl
one_kind (Filter c) h = refl
one_kind (Emit outs) h = refl
one_kind (Words field) h = refl
one_kind (Union ports) h = cc
one_kind (Reduce by field) h = cc
one_kind Distinct h = cc
one_kind Join h = cc
one_kind SideJoin h = cc
one_kind (Sink name) h = cc

pub no_sink : (t : Transform) → goes_by_row t ≡ true → does_sink t ≡ true → ⊥
no_sink (Source rows) h s = cc
no_sink (Map out) h s = cc
no_sink (Filter c) h s = cc
no_sink (Emit outs) h s = cc
no_sink (Words field) h s = cc
no_sink (Union ports) h s = cc
no_sink (Reduce by field) h s = cc
no_sink Distinct h s = cc
no_sink Join h s = cc
no_sink SideJoin h s = cc
no_sink (Sink name) h s = cc

module _ (ps : List Placed) (lower : IsLower ps) where
  value_through : (place prev : ℕ) (n : Node) → slice_get ps place ≡ Some (node_of n) → n.inputs ≡ prev ∷ [] → goes_by_row (transform_of n) ≡ true
      → through place (transform_of n) (known_value (port (values ps) prev)) ≡ known_value (port (values ps) place)
  value_through place prev n there takes h =
      sym (ap known_value (value_is ps place (node_of n) lower there) ∙ ap (λ inputs. known_value (at place (transform_of n) (map (port (values ps)) inputs))) takes
      ∙ known_at place (transform_of n) (port (values ps) prev) h)

  -- each takes what the one before it gives
  pub record IsLine (prev place : ℕ) (line : List Node) : Type 0 where
    pub there : (k : ℕ) (n : Node) → slice_get line k ≡ Some n → slice_get ps (place + k) ≡ Some (node_of n)
    pub by_row : (k : ℕ) (n : Node) → slice_get line k ≡ Some n → goes_by_row (transform_of n) ≡ true
    pub first : (n : Node) → slice_get line 0 ≡ Some n → n.inputs ≡ prev ∷ []
    pub others : (k : ℕ) (n : Node) → slice_get line (suc k) ≡ Some n → n.inputs ≡ (place + k) ∷ []

  rest : (prev place : ℕ) (n : Node) (line : List Node) → IsLine prev place (n ∷ line) → IsLine place (suc place) line
  rest prev place n line so =
      let next : (k : ℕ) → place + suc k ≡ suc place + k = λ k. omega arith in
      let z : place + 0 ≡ place = omega arith in
      record {
        there = λ k m e. subst (λ p. slice_get ps p ≡ Some (node_of m)) (next k) (so.there (suc k) m e);
        by_row = λ k m e. so.by_row (suc k) m e;
        first = λ m e. so.others 0 m e ∙ ap (λ p. p ∷ []) z;
        others = λ k m e. so.others (suc k) m e ∙ ap (λ p. p ∷ []) (next k);
      }

  pub line_value : (line : List Node) (prev place : ℕ) (n : Node) → IsLine prev place (n ∷ line)
      → all_through place (map transform_of (n ∷ line)) (known_value (port (values ps) prev)) ≡ known_value (port (values ps) (place + length line))
  line_value [] prev place n so =
      let z : place + 0 ≡ place = omega arith in
      value_through place prev n (subst (λ p. slice_get ps p ≡ Some (node_of n)) z (so.there 0 n refl)) (so.first n refl) (so.by_row 0 n refl)
      ∙ sym (ap (λ p. known_value (port (values ps) p)) z)
  line_value (m ∷ line) prev place n so =
      let z : place + 0 ≡ place = omega arith in
      let next : suc place + length line ≡ place + suc (length line) = omega arith in
      ap (all_through (suc place) (map transform_of (m ∷ line)))
      (value_through place prev n (subst (λ p. slice_get ps p ≡ Some (node_of n)) z (so.there 0 n refl)) (so.first n refl) (so.by_row 0 n refl))
      ∙ line_value line place (suc place) m (rest prev place n (m ∷ line) so)
      ∙ ap (λ p. known_value (port (values ps) p)) next
