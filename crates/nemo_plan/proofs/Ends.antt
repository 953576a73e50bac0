-- Of a line the last vertex alone is a sink.
use Rattle.std.proofs.Common.{arith, ◌≡◌, ◌≢◌, ◌∙◌, ap, sym, refl, ℕ, zero, suc, ◌<◌, ◌==◌, ◌||◌, ◌&&◌, length, slice_get, not, Bool, true, false, Some, nat_lt}
use Rattle.std.proofs.lemmas.Bool.{ne_eqb, or_from}
use Rattle.std.proofs.lemmas.Option.{slice_get_within}
use Rattle.std.specs.Cmp.{first_so, second_so}
use Rattle.std.specs.List.{list_all, list_any}
use Rattle.nemo_ir.specs.Along.{passes}
use Rattle.nemo_ir.specs.Flat.{FlatForm, IsFlat, feeds_one, is_input, is_sink, transform_of}
use Rattle.nemo_ir.specs.Line.{IsLine, one_before}
use Rattle.nemo_ir.specs.declared.flat.FlatVertex.{FlatVertex}
use Rattle.nemo_ir.proofs.Places.{all_at-at, from_none, got}
use Rattle.nemo_plan.proofs.Lists.{list_any-none}
use Rattle.nemo_ir.proofs.Lines.{line_inputs}

pub is_no : (b : Bool) → not b ≡ true → b ≡ false
is_no true h = cc
is_no false h = refl

-- an input is no sink
pub no_sink : (flat : FlatForm) → IsFlat flat → IsLine flat → (v : ℕ) (x : FlatVertex) → slice_get flat.vertices v ≡ Some x → suc v < length flat.vertices → is_sink (transform_of flat x) ≡ false
no_sink flat f line v x e l =
    let y = got flat.vertices (suc v) l in
    let inputs : list_all (is_input flat (suc v)) y.0.inputs ≡ true =
    sym (ap (λ n. list_all (is_input flat n) y.0.inputs) (from_none (suc v))) ∙ all_at-at (λ number z. list_all (is_input flat number) z.inputs) 0 flat.vertices (suc v) y.0 y.1 f.inputs in
    let one : (is_input flat (suc v) v && true) ≡ true = sym (ap (list_all (is_input flat (suc v))) (line_inputs flat line (suc v) y.0 y.1)) ∙ inputs in
    let is : is_input flat (suc v) v ≡ true = first_so (is_input flat (suc v) v) true one in
    let passing = second_so (nat_lt v (suc v)) (passes (λ z. not (is_sink (transform_of flat z))) (slice_get flat.vertices v)) is in
    is_no (is_sink (transform_of flat x)) (sym (ap (passes (λ z. not (is_sink (transform_of flat z)))) e) ∙ passing)

-- no vertex takes the last one
last_alone : (flat : FlatForm) → IsLine flat → (v : ℕ) → suc v ≡ length flat.vertices → feeds_one flat v ≡ false
last_alone flat line v l = list_any-none (λ y. list_any (λ input. input == v) y.inputs) flat.vertices other
  where
    before : (i : ℕ) → i < length flat.vertices → list_any (λ input. input == v) (one_before i) ≡ false
    before zero h = refl
    before (suc j) h =
        let differs : j ≢ v = omega arith in
        or_from (j == v) false (ne_eqb j v differs) refl

    other : (i : ℕ) (y : FlatVertex) → slice_get flat.vertices i ≡ Some y → list_any (λ input. input == v) y.inputs ≡ false
    other i y e = ap (list_any (λ input. input == v)) (line_inputs flat line i y e) ∙ before i (slice_get_within flat.vertices i y e)

pub or_other : (a b : Bool) → b ≡ false → (a || b) ≡ true → a ≡ true
or_other true b e h = refl
or_other false b e h = sym e ∙ h

pub last_sink : (flat : FlatForm) → IsFlat flat → IsLine flat → (v : ℕ) (x : FlatVertex) → slice_get flat.vertices v ≡ Some x → suc v ≡ length flat.vertices → is_sink (transform_of flat x) ≡ true
last_sink flat f line v x e l =
    let ends : (is_sink (transform_of flat x) || feeds_one flat v) ≡ true =
    sym (ap (λ n. is_sink (transform_of flat x) || feeds_one flat n) (from_none v)) ∙ all_at-at (λ number z. is_sink (transform_of flat z) || feeds_one flat number) 0 flat.vertices v x e f.ends in
    or_other (is_sink (transform_of flat x)) (feeds_one flat v) (last_alone flat line v l) ends
