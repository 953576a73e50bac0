-- Arrays of a length that no form has.
use Rattle.std.proofs.Common.{◌≡◌, refl, ℕ, [], ◌∷◌, List, length, None, ◌<◌, arith}
use Rattle.serde_json.specs.declared.value.Value.{Value}
use Rattle.serde_json.specs.View.{items_view}
use Rattle.nemo_read.specs.Exprs.{shape_from}
use Rattle.nemo_read.specs.Vertices.{ref_from}

pub shape_of_fewer : (word : List ℕ) (vs : List Value) → length vs < 1 → shape_from (items_view vs) word ≡ None
shape_of_fewer word [] h = refl
shape_of_fewer word (a ∷ vs) h = absurd (omega arith)

pub shape_of_more : (word : List ℕ) (vs : List Value) → ¬ (length vs < 4) → shape_from (items_view vs) word ≡ None
shape_of_more word [] h = refl
shape_of_more word (a ∷ []) h = absurd (omega arith)
shape_of_more word (a ∷ b ∷ []) h = absurd (omega arith)
shape_of_more word (a ∷ b ∷ c ∷ []) h = absurd (omega arith)
shape_of_more word (a ∷ b ∷ c ∷ d ∷ vs) h = refl

pub ref_of_fewer : (vs : List Value) → length vs < 2 → ref_from (items_view vs) ≡ None
ref_of_fewer [] h = refl
ref_of_fewer (a ∷ []) h = refl
ref_of_fewer (a ∷ b ∷ vs) h = absurd (omega arith)

pub ref_of_more : (vs : List Value) → ¬ (length vs < 3) → ref_from (items_view vs) ≡ None
ref_of_more [] h = refl
ref_of_more (a ∷ []) h = refl
ref_of_more (a ∷ b ∷ []) h = absurd (omega arith)
ref_of_more (a ∷ b ∷ c ∷ vs) h = refl
