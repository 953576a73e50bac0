-- No name comes twice where each is the first of its own.
use Rattle.std.proofs.Common.{◌≡◌, ◌∙◌, ap, sym, refl, ℕ, ◌+◌, ◌<◌, ◌≤◌, List, [], ◌∷◌, ◌++◌, Bool, true, false, ◌&&◌, ◌||◌, not, length, get_or, map, drop, Option, append_assoc, length-append}
use Rattle.std.proofs.lemmas.List.{drop_all, drop_more}
use Rattle.std.specs.Cmp.Lexicographic.{nat_list_eq_equiv}
use Rattle.std.specs.List.{list_any}
use Rattle.nemo_value.specs.Texts.{same_text, all_new}
use Rattle.nemo_job.specs.Refusals.{has_name}
use Rattle.nemo_job.specs.Sites.{Face, port_face}
use Rattle.nemo_job.specs.Walks.{first_named, is_before}
use Rattle.nemo_job.specs.declared.scope.Named.{Named}
use Rattle.nemo_job.proofs.Scoping.{before_is}

-- the look-up finds none of these names, counted from a place on, before its own place
abbrev pub all_first : (List ℕ → Option Named) → ℕ → List (List ℕ) → Bool
all_first find i [] = true
all_first find i (name ∷ names) = not (is_before i (find name)) && all_first find (i + 1) names

abbrev named : List Face → List (List ℕ)
named fs = map (λ f. f.name) fs

has_last : (q : List ℕ) (bs : List Face) (f : Face) → (same_text q f.name || list_any (has_name q) bs) ≡ list_any (has_name q) (bs ++ f ∷ [])
has_last q [] f = ap (λ b. b || false) (nat_list_eq_equiv.symm q f.name)
has_last q (b ∷ bs) f = swap (same_text q f.name) (same_text b.name q) (list_any (has_name q) bs) ∙ ap (λ c. same_text b.name q || c) (has_last q bs f)
  where
    swap : (x y z : Bool) → (x || (y || z)) ≡ (y || (x || z))
    swap true true z = refl
    swap true false z = refl
    swap false y z = refl

firsts : (find : List ℕ → Option Named) (bs fs others : List Face) (seen : List (List ℕ)) → ((q : List ℕ) → find q ≡ first_named q 0 (bs ++ (fs ++ others)))
    → ((q : List ℕ) → list_any (same_text q) seen ≡ list_any (has_name q) bs) → all_first find (length bs) (named fs) ≡ all_new seen (named fs)
firsts find bs [] others seen has known = refl
firsts find bs (f ∷ fs) others seen has known =
    let more : List Face = bs ++ f ∷ [] in
    let here : is_before (length bs) (find f.name) ≡ list_any (same_text f.name) seen =
    ap (is_before (length bs)) (has f.name) ∙ before_is f.name bs (f ∷ fs ++ others) (length bs) refl ∙ sym (known f.name) in
    let rest : all_first find (length more) (named fs) ≡ all_new (f.name ∷ seen) (named fs) =
    firsts find more fs others (f.name ∷ seen) (λ q. has q ∙ ap (first_named q 0) (sym (append_assoc bs (f ∷ []) (fs ++ others))))
    (λ q. ap (λ b. same_text q f.name || b) (known q) ∙ has_last q bs f) in
    ap (λ n. not (is_before (length bs) (find f.name)) && all_first find n (named fs)) (sym (length-append bs (f ∷ [])))
    ∙ ap (λ b. not (is_before (length bs) (find f.name)) && b) rest
    ∙ ap (λ b. not b && all_new (f.name ∷ seen) (named fs)) here

port_names : (carry : List (List ℕ)) → named (map port_face carry) ≡ carry
port_names [] = refl
port_names (name ∷ carry) = ap (λ names. name ∷ names) (port_names carry)

-- the ports of a loop, in front of its body
pub first_ports : (find : List ℕ → Option Named) (carry : List (List ℕ)) (others : List Face) → ((q : List ℕ) → find q ≡ first_named q 0 (map port_face carry ++ others))
    → all_first find 0 carry ≡ all_new [] carry
first_ports find carry others has =
    ap (all_first find 0) (sym (port_names carry)) ∙ firsts find [] (map port_face carry) others [] has (λ q. refl) ∙ ap (all_new []) (port_names carry)

---- at a place

-- a name that is had before its place
pub first_found : (find : List ℕ → Option Named) (i : ℕ) (names : List (List ℕ)) (name : List ℕ) → i < length names → name ≡ get_or names i name → is_before i (find name) ≡ true
    → false ≡ all_first find i (drop i names)
first_found find i names name l is found =
    ap (λ b. not b && all_first find (i + 1) (drop (i + 1) names)) (sym found) ∙ ap (λ n. not (is_before i (find n)) && all_first find (i + 1) (drop (i + 1) names)) is
    ∙ sym (ap (all_first find i) (drop_more names i name l))

-- one that isn't
pub first_more : (find : List ℕ → Option Named) (i : ℕ) (names : List (List ℕ)) (name : List ℕ) → i < length names → name ≡ get_or names i name → is_before i (find name) ≡ false
    → all_first find (i + 1) (drop (i + 1) names) ≡ all_first find i (drop i names)
first_more find i names name l is new =
    ap (λ b. not b && all_first find (i + 1) (drop (i + 1) names)) (sym new) ∙ ap (λ n. not (is_before i (find n)) && all_first find (i + 1) (drop (i + 1) names)) is
    ∙ sym (ap (all_first find i) (drop_more names i name l))

-- and past the last
pub first_end : (find : List ℕ → Option Named) (i : ℕ) (names : List (List ℕ)) → length names ≤ i → all_first find i (drop i names) ≡ true
first_end find i names l = ap (all_first find i) (drop_all i names l)
