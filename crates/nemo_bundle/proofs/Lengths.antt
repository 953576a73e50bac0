-- Arrays of a length that no form has.
use Rattle.std.proofs.Common.{◌≡◌, refl, ℕ, [], ◌∷◌, List, length, None, ◌<◌, arith}
use Rattle.serde_json.specs.declared.value.Value.{Value}
use Rattle.serde_json.specs.View.{items_view}
use Rattle.nemo_ir.specs.declared.flat.FlatVertex.{FlatVertex}
use Rattle.nemo_bundle.specs.Dags.{entry_from, edge_from, way_of}
use Rattle.nemo_bundle.specs.Scripts.{line_from, move_from}
use Rattle.nemo_bundle.specs.declared.choices.Cluster.{Cluster}

pub entry_of_fewer : (flat : List FlatVertex) (word : List ℕ) (vs : List Value) → length vs < 2 → entry_from flat (items_view vs) word ≡ None
entry_of_fewer flat word [] h = refl
entry_of_fewer flat word (a ∷ []) h = refl
entry_of_fewer flat word (a ∷ b ∷ vs) h = absurd (omega arith)

pub entry_of_more : (flat : List FlatVertex) (word : List ℕ) (vs : List Value) → ¬ (length vs < 4) → entry_from flat (items_view vs) word ≡ None
entry_of_more flat word [] h = refl
entry_of_more flat word (a ∷ []) h = refl
entry_of_more flat word (a ∷ b ∷ []) h = absurd (omega arith)
entry_of_more flat word (a ∷ b ∷ c ∷ []) h = absurd (omega arith)
entry_of_more flat word (a ∷ b ∷ c ∷ d ∷ vs) h = refl

pub edge_of_fewer : (vs : List Value) → length vs < 3 → edge_from (items_view vs) ≡ None
edge_of_fewer [] h = refl
edge_of_fewer (a ∷ []) h = refl
edge_of_fewer (a ∷ b ∷ []) h = refl
edge_of_fewer (a ∷ b ∷ c ∷ vs) h = absurd (omega arith)

pub way_of_fewer : (vs : List Value) → length vs < 3 → way_of (items_view vs) ≡ None
way_of_fewer [] h = refl
way_of_fewer (a ∷ []) h = refl
way_of_fewer (a ∷ b ∷ []) h = refl
way_of_fewer (a ∷ b ∷ c ∷ vs) h = absurd (omega arith)

pub way_of_more : (vs : List Value) → ¬ (length vs < 4) → way_of (items_view vs) ≡ None
way_of_more [] h = refl
way_of_more (a ∷ []) h = refl
way_of_more (a ∷ b ∷ []) h = refl
way_of_more (a ∷ b ∷ c ∷ []) h = absurd (omega arith)
way_of_more (a ∷ b ∷ c ∷ d ∷ vs) h = refl

pub line_of_fewer : (c : Cluster) (vs : List Value) → length vs < 3 → line_from c (items_view vs) ≡ None
line_of_fewer c [] h = refl
line_of_fewer c (x ∷ []) h = refl
line_of_fewer c (x ∷ y ∷ []) h = refl
line_of_fewer c (x ∷ y ∷ z ∷ vs) h = absurd (omega arith)

pub line_of_more : (c : Cluster) (vs : List Value) → ¬ (length vs < 5) → line_from c (items_view vs) ≡ None
line_of_more c [] h = refl
line_of_more c (x ∷ []) h = refl
line_of_more c (x ∷ y ∷ []) h = refl
line_of_more c (x ∷ y ∷ z ∷ []) h = absurd (omega arith)
line_of_more c (x ∷ y ∷ z ∷ u ∷ []) h = absurd (omega arith)
line_of_more c (x ∷ y ∷ z ∷ u ∷ v ∷ vs) h = refl

pub move_of_more : (word : List ℕ) (vs : List Value) → ¬ (length vs < 4) → move_from (items_view vs) word ≡ None
move_of_more word [] h = absurd (omega arith)
move_of_more word (a ∷ []) h = absurd (omega arith)
move_of_more word (a ∷ b ∷ []) h = absurd (omega arith)
move_of_more word (a ∷ b ∷ c ∷ []) h = absurd (omega arith)
move_of_more word (a ∷ b ∷ c ∷ d ∷ vs) h = refl
