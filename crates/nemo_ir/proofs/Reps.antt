-- Flat vertices: what stands for them, and their inputs.
use Rattle.std.proofs.Common.{◌≡◌, ◌∙◌, ap, sym, subst, refl, ℕ, ◌<◌, List, ◌∷◌, map, length, slice_get, true, not, nat_lt, Option, Some, None, arith}
use Rattle.std.proofs.lemmas.Bool.{ltb-true}
use Rattle.std.proofs.lemmas.Option.{slice_get_within, unwrap_or-slice_get}
use Rattle.std.specs.Cmp.{first_so}
use Rattle.std.specs.List.{list_all}
use Rattle.std.specs.Prelude.{unwrap_or}
use Rattle.nemo_transform.specs.declared.transform.Transform.{Transform}
use Rattle.nemo_ir.specs.Along.{passes}
use Rattle.nemo_ir.specs.Flat.{FlatForm, IsFlat, is_input, is_sink, transform_of}
use Rattle.nemo_ir.specs.Nodes.{Does, Node, deed_or, nodes, rep_of, resolve}
use Rattle.nemo_ir.specs.Valid.{HasRep, StandsFor, Valid}
use Rattle.nemo_ir.specs.declared.dag.IrDag.{IrDag}
use Rattle.nemo_ir.specs.declared.flat.FlatVertex.{FlatVertex}
use Rattle.nemo_ir.proofs.FlatPlaces.{HasTransform, has_transform}
use Rattle.nemo_ir.proofs.Places.{all_at-at, from_none}

-- an Op does the transform of the flat vertex on what stands for its inputs
pub record IsRepresented (flat : FlatForm) (dag : IrDag) (x : ℕ) (y : FlatVertex) : Type 0 where
  pub inside : x < length dag.rep
  pub node : Node
  pub there : slice_get (nodes flat.transforms dag) (rep_of dag x) ≡ Some node
  pub transform : Transform
  pub is : transform_of flat y ≡ Some transform
  pub deed : node.deed ≡ Does transform
  pub inputs : map (λ f. resolve dag f.from) node.feeds ≡ map (rep_of dag) y.inputs

-- the first of some inputs has a lower number
pub first_low : (flat : FlatForm) (x z : ℕ) (zs : List ℕ) → list_all (is_input flat x) (z ∷ zs) ≡ true → z < x
first_low flat x z zs h =
    ltb-true z x (first_so (nat_lt z x) (passes (λ y. not (is_sink (transform_of flat y))) (slice_get flat.vertices z)) (first_so (is_input flat x z) (list_all (is_input flat x) zs) h))

module _ (flat : FlatForm) (fine : IsFlat flat) where
  pub represented : (dag : IrDag) → Valid flat dag → (x : ℕ) (y : FlatVertex) → slice_get flat.vertices x ≡ Some y → IsRepresented flat dag x y
  represented dag valid x y g = at_rep (slice_get dag.rep x) refl (subst (λ o. HasRep flat dag o (slice_get dag.rep x)) g (valid.v4 x (omega (arith, slice_get_within flat.vertices x y g))))
    where
      has : HasTransform flat y
      has = has_transform flat fine x y g

      at_node : (v : ℕ) → x < length dag.rep → rep_of dag x ≡ v → (n : Option Node) → slice_get (nodes flat.transforms dag) v ≡ n → StandsFor flat dag y n → IsRepresented flat dag x y
      at_node v l r (Some node) e h =
          record { inside = l; node = node; there = ap (slice_get (nodes flat.transforms dag)) r ∙ e; transform = has.transform; is = has.is; deed = h.0 ∙ ap deed_or has.is; inputs = h.1 }
      at_node v l r None e h = absurd h

      at_rep : (r : Option ℕ) → slice_get dag.rep x ≡ r → HasRep flat dag (Some y) r → IsRepresented flat dag x y
      at_rep (Some v) e h = at_node v (slice_get_within dag.rep x v e) (sym (unwrap_or-slice_get dag.rep x 0) ∙ ap (λ o. unwrap_or o 0) e) (slice_get (nodes flat.transforms dag) v) refl h
      at_rep None e h = absurd h

  pub are_inputs : (x : ℕ) (y : FlatVertex) → slice_get flat.vertices x ≡ Some y → list_all (is_input flat x) y.inputs ≡ true
  are_inputs x y g =
      ap (λ n. list_all (is_input flat n) y.inputs) (sym (from_none x)) ∙ all_at-at (λ n z. list_all (is_input flat n) z.inputs) 0 flat.vertices x y g fine.inputs
