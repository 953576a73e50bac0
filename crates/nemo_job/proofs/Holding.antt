-- What is held from vertex to vertex.
use Rattle.std.proofs.Common.{◌≡◌, ◌∙◌, refl, sym, ap, subst, ℕ, suc, ◌+◌, ◌-◌, ◌<◌, ◌≤◌, List, [], ◌∷◌, ◌++◌, length, map, get_or, Option, Some, None, inl, inr, false, arith, length-append, append-nil}
use Rattle.std.specs.Prelude.{slice_get, option_map, is_some, All}
use Rattle.std.proofs.lemmas.List.{get_or_append_left, get_or-append_right, map-append}
use Rattle.std.proofs.lemmas.Option.{slice_get-get_or, slice_get-map, slice_get_within, slice_get_cases, slice_get_read, get_or_from_slice_get}
use Rattle.nemo_transform.specs.Brought.{port}
use Rattle.nemo_transform.specs.Through.{Batch}
use Rattle.nemo_job.specs.ByPlace.{ByPlace, Placed}
use Rattle.nemo_job.specs.Held.{Feeds, IsGiven, IsHeld, IsLast, IsLower, IsReleased, known, known_value, node_of}
use Rattle.nemo_job.specs.declared.held.Held.{Held}
use Rattle.nemo_job.specs.declared.copies.Node.{Node}
use Rattle.nemo_job.proofs.Values.{same_on}

-- nothing is held at first
pub held_none : (vals : List ByPlace) (last : List (Option ℕ)) → IsHeld vals last 0 []
held_none vals last = record {
  size = refl;
  given = λ k u h e. cc;
}

-- the inputs of a vertex are among the vertices before it
pub inputs_below : (ps : List Placed) (place n : ℕ) (p : Placed) → IsLower ps → slice_get ps place ≡ Some p → n ≡ place → All (λ j. j < n) p.inputs
inputs_below ps place n p lower e is = λ k d low. subst (λ m. get_or p.inputs k d < m) (sym is) (lower place p k (get_or p.inputs k d) e (slice_get-get_or p.inputs k d low))

none_known : Batch
none_known = record { rows = []; first = None }

-- what a vertex that reaches a sink takes is held
pub held_feeds : (vals : List ByPlace) (ps : List Placed) (last : List (Option ℕ)) (place u : ℕ) (held : List Batch) (p : Placed) → IsLower ps → IsLast ps last → IsHeld vals last place held → slice_get ps place ≡ Some p → slice_get last place ≡ Some (Some u) → Feeds vals held p.inputs
held_feeds vals ps last place u held p lower lasts so there reach =
    same_on (slice_get held) (λ j. Some (known_value (port vals j))) p.inputs
    (λ k j e.
    let by = lasts.inputs place p k j u there e reach in
    let low : j < place = lower place p k j there e in
    let size = so.size in
    let here : slice_get held j ≡ Some (get_or held j none_known) = slice_get-get_or held j none_known (omega arith) in
    here ∙ ap Some (so.given j by.0 (get_or held j none_known) here by.1 by.2))

back : {X : Type 0} (xs : List X) (y h : X) (k : ℕ) → length xs ≤ k → slice_get (xs ++ y ∷ []) k ≡ Some h → (k ≡ length xs) × (h ≡ y)
back xs y h k high e =
    let within = slice_get_within (xs ++ y ∷ []) k h e in
    let more = length-append xs (y ∷ []) in
    let is : k ≡ length xs = omega arith in
    let z : k - length xs ≡ 0 = omega arith in
    (is, sym (get_or_from_slice_get (xs ++ y ∷ []) k h y e) ∙ get_or-append_right xs (y ∷ []) (length xs) k y refl high ∙ ap (λ n. get_or (y ∷ []) n y) z)

front_all : {X : Type 0} (xs ys : List X) (d : X) (k : ℕ) → k < length xs → slice_get (xs ++ ys) k ≡ slice_get xs k
front_all xs ys d k low =
    slice_get-get_or (xs ++ ys) k d (let more = length-append xs ys in omega arith)
    ∙ ap Some (get_or_append_left xs ys d k low) ∙ sym (slice_get-get_or xs k d low)

-- Vertices more: each but the last one is taken by the next one alone, so that what it gives needn't be held.
pub held_line : (vals : List ByPlace) (last : List (Option ℕ)) (place : ℕ) (held new mids : List Batch) (given : Batch) → IsHeld vals last place held → IsReleased last place held new
    → ((k : ℕ) → place ≤ k → k < place + length mids → slice_get last k ≡ Some (Some (suc k)))
    → ((u : ℕ) → slice_get last (place + length mids) ≡ Some (Some u) → given ≡ known_value (port vals (place + length mids)))
    → IsHeld vals last (place + length mids + 1) ((new ++ mids) ++ given ∷ [])
held_line vals last place held new mids given so let_go next gives =
    let size : length new ≡ place = let_go.size ∙ so.size in
    let both : length (new ++ mids) ≡ place + length mids = length-append new mids ∙ ap (λ n. n + length mids) size in
    record {
      size = length-append (new ++ mids) (given ∷ []) ∙ ap (λ n. n + 1) both;
      given = λ k u h e reach later. elim ((slice_get_cases (new ++ mids) k).1) [
        | inl a ↦
            let low : k < place + length mids = (let b = a.1 in omega arith) in
            elim ((slice_get_cases new k).1) [
              | inl n ↦
                  let apart : slice_get last k ≡ Some (Some place) → ⊥ =
                  λ z. let both : Some (Some u) ≡ Some (Some place) = sym reach ∙ z in let same : u ≡ place = cc in absurd (omega arith) in
                  so.given k u h (sym (let_go.rows k apart) ∙ sym (front_all new mids h k n.1) ∙ sym (front_all (new ++ mids) (given ∷ []) h k a.1) ∙ e) reach (omega arith)
              | inr n ↦
                  let past : place ≤ k = (let b = n.0 in omega arith) in
                  let both : Some (Some u) ≡ Some (Some (suc k)) = sym reach ∙ next k past low in
                  let same : u ≡ suc k = cc in
                  absurd (omega arith)
            ]
        | inr a ↦
            let at = back (new ++ mids) given h k a.0 e in
            let is : k ≡ place + length mids = at.0 ∙ both in
            at.1 ∙ gives u (sym (ap (slice_get last) is) ∙ reach) ∙ sym (ap (λ n. known_value (port vals n)) is)
      ];
    }

-- after the last vertex what the sinks gave is held
pub held_given : (vals : List ByPlace) (ps : List Placed) (last : List (Option ℕ)) (place : ℕ) (held : List Batch) → IsLast ps last → IsHeld vals last place held → place ≡ length ps → IsGiven ps vals held
held_given vals ps last place held lasts so end = record {
  size = so.size ∙ end;
  sinks = λ k p e sinks.
      let size = so.size in
      let low : k < length ps = slice_get_within ps k p e in
      let here : slice_get held k ≡ Some (get_or held k none_known) = slice_get-get_or held k none_known (omega arith) in
      let reach = lasts.sinks k p e sinks in
      here ∙ ap Some (so.given k (length ps) (get_or held k none_known) here reach (omega arith));
}

-- the vertex of a place, as code reads it
pub placed_read : (nodes : List Node) (place : ℕ) (node : Node) → place < length nodes → node ≡ get_or nodes place node → slice_get (map node_of nodes) place ≡ Some (node_of node)
placed_read nodes place node within is = slice_get-map node_of nodes place ∙ ap (option_map node_of) (slice_get_read nodes (length nodes) place node refl within is)

pub not_reached : (last : List (Option ℕ)) (place : ℕ) (o : Option ℕ) (u : ℕ) → slice_get last place ≡ Some o → is_some o ≡ false → slice_get last place ≡ Some (Some u) → ⊥
not_reached last place None u read so reach = let both : Some None ≡ Some (Some u) = sym read ∙ reach in cc
not_reached last place (Some w) u read so reach = cc

-- the same, as code holds it
pub held_pushed : (vals : List ByPlace) (last : List (Option ℕ)) (place : ℕ) (held : List Batch) (new all : List Held) (given : Held) → IsHeld vals last place held → IsReleased last place held (map known new) → all ≡ new ++ given ∷ []
    → ((u : ℕ) → slice_get last place ≡ Some (Some u) → known given ≡ known_value (port vals place)) → IsHeld vals last (place + 1) (map known all)
held_pushed vals last place held new all given so let_go put gives =
    let z : place + 0 ≡ place = omega arith in
    let none : map known new ++ [] ≡ map known new = append-nil (map known new) in
    subst (λ n. IsHeld vals last (n + 1) (map known all)) z
    (subst (IsHeld vals last (place + 0 + 1)) (sym (ap (map known) put ∙ map-append known new (given ∷ []) ∙ ap (λ l. l ++ known given ∷ []) (sym none)))
    (held_line vals last place held (map known new) [] (known given) so let_go (λ k past low. absurd (omega arith)) (subst (λ n. (u : ℕ) → slice_get last n ≡ Some (Some u) → known given ≡ known_value (port vals n)) (sym z) gives)))
