-- Lists that are read item by item.
use Rattle.std.proofs.Common.{◌≡◌, refl, sym, ap, ◌∙◌, ℕ, ◌++◌, ◌+◌, ◌<◌, length, get_or, drop, ◌∷◌, [], List, append_assoc, Some, Result, Ok, Err}
use Rattle.std.proofs.lemmas.List.{at_drop_more}
use Rattle.serde_json.specs.Data.{item}
use Rattle.serde_json.specs.View.{items_view, view}
use Rattle.serde_json.specs.declared.value.Value.{Value}
use Rattle.nemo_base.specs.declared.script.ScriptLine.{ScriptLine}
use Rattle.nemo_job.specs.declared.vertex.JobVertex.{JobVertex}
use Rattle.nemo_bundle.specs.Entries.{put_first}
use Rattle.nemo_bundle.specs.Scripts.{line_of, lines_from}
use Rattle.nemo_bundle.specs.Vertices.{Walk}
use Rattle.nemo_bundle.specs.declared.choices.Cluster.{Cluster}

-- items in front of the others, where the others are there; else the others' place
abbrev pub put_front : {X : Type 0} → List X → Result (List X) ℕ → Result (List X) ℕ
put_front xs (Ok ys) = Ok (xs ++ ys)
put_front xs (Err place) = Err place

pub put_front_more : {X : Type 0} (i : ℕ) (xs : List X) (x : X) (others : Result (List X) ℕ) → put_front (xs ++ x ∷ []) others ≡ put_front xs (put_first i (Some x) others)
put_front_more i xs x (Ok ys) = simp append_assoc
put_front_more i xs x (Err place) = refl

-- a line that is read, in front of the lines after it
pub put_front_line : (c : Cluster) (i before : ℕ) (lines : List ScriptLine) (l : ScriptLine) (vs : List Value) (v : Value) → i < length vs → v ≡ get_or vs i v → line_of c i before (view v) ≡ Some l →
    put_front (lines ++ l ∷ []) (lines_from c (i + 1) l.at (items_view (drop (i + 1) vs))) ≡ put_front lines (lines_from c i before (items_view (drop i vs)))
put_front_line c i before lines l vs v within e h =
    let rest = items_view (drop (i + 1) vs) in
    let read : put_front (lines ++ l ∷ []) (lines_from c (i + 1) l.at rest) ≡ put_front lines (lines_from c i before (item (view v) rest)) = rw h (put_front_more i lines l (lines_from c (i + 1) l.at rest)) in
    let taken : put_front lines (lines_from c i before (item (view v) rest)) ≡ put_front lines (lines_from c i before (item (view (get_or vs i v)) rest)) = ap (λ (w : Value). put_front lines (lines_from c i before (item (view w) rest))) e in
    read ∙ taken ∙ sym (at_drop_more (λ (ws : List Value). put_front lines (lines_from c i before (items_view ws))) vs i v within)

-- vertices in front of those of a walk
abbrev pub with_walked : List JobVertex → Walk (List JobVertex) → Walk (List JobVertex)
with_walked vs (Ok w) = Ok (record { made = vs ++ w.made; next = w.next })
with_walked vs (Err i) = Err i
