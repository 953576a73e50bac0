-- What a vertex gives, as it is held.
use Rattle.std.proofs.Common.{◌≡◌, ◌∙◌, refl, sym, ap, ℕ, List, [], ◌∷◌, ◌++◌, length, map, get_or, Option, Some, None, true, false, Ok, arith}
use Rattle.std.specs.Prelude.{slice_get}
use Rattle.std.proofs.lemmas.List.{append-nil}
use Rattle.nemo_value.specs.Ascending.{ascending}
use Rattle.nemo_transform.specs.Brought.{Arisen, port, all_faults, arisen, blocking, brought_by, at}
use Rattle.nemo_transform.specs.FaultOrder.{fault_cmp}
use Rattle.nemo_transform.specs.Gives.{Row, Answer, rows_in, own_faults, is_filled}
use Rattle.nemo_transform.specs.Ports.{kinds_of}
use Rattle.nemo_transform.specs.declared.transform.Transform.{Transform}
use Rattle.nemo_transform.specs.declared.transform.Transform.TheVariants.{Sink}
use Rattle.nemo_transform.specs.FirstFault.{first_fault, lesser_by}
use Rattle.nemo_transform.specs.ArisenOrder.{place_cmp}
use Rattle.nemo_transform.specs.Through.{Batch}
use Rattle.nemo_transform.proofs.MapSteps.{rows_in-rows, no_fault-rows}
use Rattle.nemo_transform.proofs.FirstFaults.{first_fault_both}
use Rattle.nemo_job.specs.ByPlace.{ByPlace, Placed}
use Rattle.nemo_job.specs.Held.{Feeds, known_value, answers_at, value_at}
use Rattle.nemo_job.proofs.Feeding.{some_one}

free : (x : ℕ) (bs passed : List (Arisen ℕ)) (given : List Answer) → is_filled bs ≡ false → brought_by x bs passed given ≡ record { rows = rows_in given; faults = passed ++ map (arisen x) (own_faults given) }
free x [] passed given h = refl
free x (b ∷ bs) passed given h = cc

blocked : (x : ℕ) (bs passed : List (Arisen ℕ)) (given : List Answer) → is_filled bs ≡ true → brought_by x bs passed given ≡ record { rows = []; faults = passed }
blocked x [] passed given h = cc
blocked x (b ∷ bs) passed given h = refl

-- a vertex that isn't blocked
pub given_free : (vals : List ByPlace) (place : ℕ) (p : Placed) (rows : List Row) (first passed own : Option (Arisen ℕ)) → false ≡ is_filled (blocking (kinds_of p.transform) (map (port vals) p.inputs)) → rows ≡ rows_in (answers_at vals p) → passed ≡ first_fault (all_faults (map (port vals) p.inputs)) → own ≡ first_fault (map (arisen place) (own_faults (answers_at vals p)))
    → first ≡ lesser_by place_cmp passed own → record { rows = rows; first = first } ≡ known_value (value_at vals place p)
given_free vals place p rows first passed own unblocked r f o least =
    let ports = map (port vals) p.inputs in
    let faults : first ≡ first_fault (all_faults ports ++ map (arisen place) (own_faults (answers_at vals p))) =
    least ∙ (λ i. lesser_by place_cmp (f i) (o i)) ∙ sym (first_fault_both (all_faults ports) (map (arisen place) (own_faults (answers_at vals p)))) in
    let both : record { rows = rows; first = first } ≡ known_value (record { rows = rows_in (answers_at vals p); faults = all_faults ports ++ map (arisen place) (own_faults (answers_at vals p)) }) =
    λ i. record { rows = r i; first = faults i } in
    both ∙ sym (ap known_value (free place (blocking (kinds_of p.transform) ports) (all_faults ports) (answers_at vals p) (sym unblocked)))

-- a vertex that is blocked
pub given_blocked : (vals : List ByPlace) (place : ℕ) (p : Placed) (first : Option (Arisen ℕ)) → true ≡ is_filled (blocking (kinds_of p.transform) (map (port vals) p.inputs)) → first ≡ first_fault (all_faults (map (port vals) p.inputs))
    → record { rows = []; first = first } ≡ known_value (value_at vals place p)
given_blocked vals place p first shut f =
    let ports = map (port vals) p.inputs in
    let both : record { rows = []; first = first } ≡ known_value (record { rows = []; faults = all_faults ports }) = λ i. record { rows = []; first = f i } in
    both ∙ sym (ap known_value (blocked place (blocking (kinds_of p.transform) ports) (all_faults ports) (answers_at vals p) (sym shut)))

-- a sink gives what its input gives
sink_value : (place : ℕ) (name : List ℕ) (f : ByPlace) → at place (Sink name) (f ∷ []) ≡ f
sink_value place name f =
    let faults : (f.faults ++ []) ++ map (arisen place) (own_faults (map Ok f.rows)) ≡ f.faults =
    ap (λ l. (f.faults ++ []) ++ map (arisen place) (ascending fault_cmp l)) (no_fault-rows f.rows) ∙ append-nil (f.faults ++ []) ∙ append-nil f.faults in
    λ i. record { rows = rows_in-rows f.rows i; faults = faults i }

one_port : (vals : List ByPlace) (inputs : List ℕ) → length inputs ≡ 1 → map (port vals) inputs ≡ port vals (get_or inputs 0 0) ∷ []
one_port vals [] h = absurd (omega arith)
one_port vals (j ∷ []) h = refl
one_port vals (j ∷ k ∷ inputs) h = absurd (omega arith)

first_fed : (vals : List ByPlace) (held : List Batch) (inputs : List ℕ) → length inputs ≡ 1 → Feeds vals held inputs → slice_get held (get_or inputs 0 0) ≡ Some (known_value (port vals (get_or inputs 0 0)))
first_fed vals held [] h feeds = absurd (omega arith)
first_fed vals held (j ∷ inputs) h feeds = ap (λ l. get_or l 0 None) feeds

pub given_sink : (vals : List ByPlace) (held : List Batch) (place : ℕ) (t : Transform) (inputs : List ℕ) (name : List ℕ) (k : Batch) → t ≡ Sink name → length inputs ≡ length (kinds_of t) → Feeds vals held inputs → slice_get held (get_or inputs 0 0) ≡ Some k → k ≡ known_value (value_at vals place (record { transform = t; inputs = inputs }))
given_sink vals held place t inputs name k is size feeds here =
    let one : length inputs ≡ 1 = size ∙ ap (λ u. length (kinds_of u)) is in
    let f = port vals (get_or inputs 0 0) in
    some_one _ _ (sym here ∙ first_fed vals held inputs one feeds)
    ∙ ap known_value (sym (sink_value place name f))
    ∙ sym (λ i. known_value (at place (is i) (one_port vals inputs one i)))
