-- What a flat job keeps, vertex by vertex.
use Rattle.std.proofs.Common.{arith, ◌≡◌, ◌∙◌, ap, sym, subst, refl, ℕ, zero, suc, ◌+◌, ◌-◌, ◌<◌, ◌≤◌, ◌==◌, List, [], ◌∷◌, ◌++◌, append_assoc, length, slice_get, get_or, true, nat_le, replicate, Option, Some, None}
use Rattle.std.proofs.lemmas.Bool.{eqb-true, leb-true}
use Rattle.std.proofs.lemmas.Option.{slice_get_read}
use Rattle.std.specs.Cmp.{second_so}
use Rattle.nemo_transform.specs.Ports.{kinds_of}
use Rattle.nemo_transform.specs.declared.shape.PortKind.TheVariants.{Main}
use Rattle.nemo_transform.specs.Soundness.{is_sound}
use Rattle.nemo_transform.specs.declared.transform.Transform.{Transform}
use Rattle.nemo_transform.specs.declared.transform.Transform.TheVariants.{Source, Map, Filter, Emit, Words, Union, Reduce, Distinct, Join, SideJoin, Sink}
use Rattle.nemo_ir.specs.Along.{counted, passes}
use Rattle.nemo_ir.specs.Flat.{FlatForm, IsFlat, has_ports, transform_of}
use Rattle.nemo_ir.specs.declared.flat.FlatVertex.{FlatVertex}
use Rattle.nemo_ir.proofs.Places.{list_all-at}

-- the transform of a flat vertex
pub record HasTransform (flat : FlatForm) (x : FlatVertex) : Type 0 where
  pub transform : Transform
  pub is : transform_of flat x ≡ Some transform
  pub ports : length (kinds_of transform) ≡ length x.inputs
  pub sound : is_sound transform ≡ true

pub has_transform : (flat : FlatForm) → IsFlat flat → (i : ℕ) (x : FlatVertex) → slice_get flat.vertices i ≡ Some x → HasTransform flat x
has_transform flat f i x e = go (transform_of flat x) refl (list_all-at (has_ports flat) flat.vertices i x e f.ports)
  where
    go : (t : Option Transform) → transform_of flat x ≡ t → passes (λ u. length (kinds_of u) == length x.inputs) t ≡ true → HasTransform flat x
    go (Some t) is h = record { transform = t; is = is; ports = eqb-true (length (kinds_of t)) (length x.inputs) h; sound = list_all-at is_sound flat.transforms x.transform t is f.sound }
    go None is h = cc

all_main : (n : ℕ) → length (replicate n Main) ≡ n
all_main zero = refl
all_main (suc n) = ap suc (all_main n)

few_ports : (t : Transform) → is_sound t ≡ true → length (kinds_of t) ≤ 16
few_ports (Source rows) h = omega arith
few_ports (Map out) h = omega arith
few_ports (Filter cond) h = omega arith
few_ports (Emit outs) h = omega arith
few_ports (Words field) h = omega arith
few_ports (Union n) h = subst (λ m. m ≤ 16) (sym (all_main n)) (leb-true n 16 (second_so (nat_le 1 n) (nat_le n 16) h))
few_ports (Reduce by field) h = omega arith
few_ports Distinct h = omega arith
few_ports Join h = omega arith
few_ports SideJoin h = omega arith
few_ports (Sink name) h = omega arith

pub few_inputs : (flat : FlatForm) → IsFlat flat → (i : ℕ) (x : FlatVertex) → i < length flat.vertices → x ≡ get_or flat.vertices i x → length x.inputs ≤ 16
few_inputs flat f i x h e =
    let t = has_transform flat f i x (slice_get_read flat.vertices (length flat.vertices) i x refl h e) in
    subst (λ n. n ≤ 16) t.ports (few_ports t.transform t.sound)

pub number_more : (done : List ℕ) (i n : ℕ) → i < n → (done ++ i ∷ []) ++ counted (i + 1) (n - (i + 1)) ≡ done ++ counted i (n - i)
number_more done i n h =
    let left : suc (n - (i + 1)) ≡ n - i = omega arith in
    let up : i + 1 ≡ suc i = omega arith in
    append_assoc done (i ∷ []) (counted (i + 1) (n - (i + 1))) ∙ ap (λ k. done ++ i ∷ counted k (n - (i + 1))) up ∙ ap (λ m. done ++ counted i m) left
