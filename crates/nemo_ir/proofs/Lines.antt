-- Lines and their nodes, place by place.
use Rattle.std.proofs.Common.{option_map, arith, ◌≡◌, ◌∙◌, ap, sym, refl, ℕ, zero, suc, ◌+◌, List, [], ◌∷◌, length, slice_get, Some}
use Rattle.std.proofs.lemmas.Option.{slice_get-map}
use Rattle.nemo_transform.specs.declared.shape.PortKind.{PortKind}
use Rattle.nemo_transform.specs.declared.transform.Transform.{Transform}
use Rattle.nemo_ir.specs.Flat.{FlatForm}
use Rattle.nemo_ir.specs.Line.{IsLine, one_before}
use Rattle.nemo_ir.specs.Nodes.{node_of, nodes_from}
use Rattle.nemo_ir.specs.declared.dag.IrEdge.{IrEdge}
use Rattle.nemo_ir.specs.declared.dag.IrVertex.{IrVertex}
use Rattle.nemo_ir.specs.declared.flat.FlatVertex.{FlatVertex}
use Rattle.nemo_ir.proofs.Places.{map_at-whole, same_item}

pub line_inputs : (flat : FlatForm) → IsLine flat → (i : ℕ) (x : FlatVertex) → slice_get flat.vertices i ≡ Some x → x.inputs ≡ one_before i
line_inputs flat line i x e =
    same_item x.inputs (one_before i)
    (sym (slice_get-map (λ y. y.inputs) flat.vertices i ∙ ap (option_map (λ y. y.inputs)) e)
    ∙ ap (λ ls. slice_get ls i) line ∙ map_at-whole (λ j y. one_before j) flat.vertices i x e)

pub nodes_get : (ts : List Transform) (es : List IrEdge) (k : ℕ) (us : List IrVertex) (i : ℕ) (u : IrVertex) → slice_get us i ≡ Some u → slice_get (nodes_from ts es k us) i ≡ Some (node_of ts es (k + i) u)
nodes_get ts es k [] i u g = cc
nodes_get ts es k (w ∷ us) zero u g = let e : k ≡ k + 0 = omega arith in ap (λ x. Some (node_of ts es k x)) (same_item w u g) ∙ ap (λ n. Some (node_of ts es n u)) e
nodes_get ts es k (w ∷ us) (suc i) u g = let e : (k + 1) + i ≡ k + suc i = omega arith in nodes_get ts es (k + 1) us i u g ∙ ap (λ n. Some (node_of ts es n u)) e

pub only_kind : (ks : List PortKind) → length ks ≡ 1 → (k : PortKind) × (ks ≡ k ∷ [])
only_kind [] h = absurd (omega arith)
only_kind (k ∷ []) h = (k, refl)
only_kind (k ∷ l ∷ ks) h = absurd (omega arith)
