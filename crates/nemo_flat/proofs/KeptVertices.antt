-- The kept copies as vertices, one after another.
use Rattle.std.proofs.Common.{arith, ◌≡◌, ◌∙◌, ap, sym, refl, subst, ℕ, zero, suc, ◌+◌, ◌<◌, ◌≤◌, List, [], ◌∷◌, ◌++◌, append_assoc, length, map, slice_get, Bool, true, false, cond, get_or, drop, Some, filter, nat_lt, length-append, lt-ltb, le-ltb, below_more}
use Rattle.std.proofs.lemmas.List.{length-map}
use Rattle.std.proofs.lemmas.Option.{get_or_from_slice_get}
use Rattle.nemo_ir.specs.declared.flat.FlatVertex.{FlatVertex}
use Rattle.nemo_job.specs.Unrolled.{Copy}
use Rattle.nemo_flat.specs.Flattened.{Numbered, flat_vertex, kept, kept_from, number_of}
use Rattle.nemo_flat.specs.Keeping.{is_wanted, vertex_of}
use Rattle.nemo_flat.proofs.KeptMarks.{kept_at}
use Rattle.nemo_flat.proofs.OneMore.{get_front, get_seam}

---- numbers

few_from : (place : ℕ) (cs : List Copy) → length (kept_from place cs) ≤ length cs
few_from place [] = omega arith
few_from place (c ∷ cs) = go (is_wanted (kept_from (place + 1) cs) place c) (kept_from (place + 1) cs) (few_from (place + 1) cs)
  where
    go : (b : Bool) (ns : List Numbered) → length ns ≤ length cs → length (cond b (record { place = place; copy = c } ∷ ns) ns) ≤ suc (length cs)
    go true ns h = omega arith
    go false ns h = omega arith

pub few_kept : (cs : List Copy) → length (kept cs) ≤ length cs
few_kept cs = few_from 0 cs

none_lower : (place x : ℕ) (cs : List Copy) → x ≤ place → number_of (kept_from place cs) x ≡ 0
none_lower place x [] le = refl
none_lower place x (c ∷ cs) le = go (is_wanted (kept_from (place + 1) cs) place c) (kept_from (place + 1) cs) (none_lower (place + 1) x cs (omega arith))
  where
    go : (b : Bool) (ns : List Numbered) → number_of ns x ≡ 0 → number_of (cond b (record { place = place; copy = c } ∷ ns) ns) x ≡ 0
    go true ns h = ap (λ b. length (cond b (record { place = place; copy = c } ∷ filter (λ n. nat_lt n.place x) ns) (filter (λ n. nat_lt n.place x) ns))) (le-ltb place x le) ∙ h
    go false ns h = h

-- those of lower places, and those that are left, are all
numbers_from : (place : ℕ) (cs : List Copy) (i : ℕ) → i ≤ length cs → number_of (kept_from place cs) (place + i) + length (kept_from (place + i) (drop i cs)) ≡ length (kept_from place cs)
numbers_from place [] zero l = refl
numbers_from place [] (suc i) l = absurd (omega arith)
numbers_from place (c ∷ cs) zero l =
    let here : place + 0 ≡ place = omega arith in
    let none : number_of (kept_from place (c ∷ cs)) (place + 0) ≡ 0 = none_lower place (place + 0) (c ∷ cs) (omega arith) in
    let same : length (kept_from (place + 0) (c ∷ cs)) ≡ length (kept_from place (c ∷ cs)) = ap (λ p. length (kept_from p (c ∷ cs))) here in
    omega arith
numbers_from place (c ∷ cs) (suc i) l =
    let next : place + 1 + i ≡ place + suc i = omega arith in
    let left = kept_from (place + 1) cs in
    go (is_wanted left place c) left (length (kept_from (place + suc i) (drop i cs)))
    (subst (λ p. number_of left p + length (kept_from p (drop i cs)) ≡ length left) next (numbers_from (place + 1) cs i (omega arith)))
  where
    go : (b : Bool) (ns : List Numbered) (n : ℕ) → number_of ns (place + suc i) + n ≡ length ns
        → number_of (cond b (record { place = place; copy = c } ∷ ns) ns) (place + suc i) + n ≡ length (cond b (record { place = place; copy = c } ∷ ns) ns)
    go true ns n h =
        let more : number_of (record { place = place; copy = c } ∷ ns) (place + suc i) ≡ suc (number_of ns (place + suc i)) =
        ap (λ b. length (cond b (record { place = place; copy = c } ∷ filter (λ m. nat_lt m.place (place + suc i)) ns) (filter (λ m. nat_lt m.place (place + suc i)) ns))) (lt-ltb place (place + suc i) (omega arith)) in
        omega arith
    go false ns n h = h

---- vertices

-- the vertices so far, and then those of the copies that are left, are all
abbrev pub IsBegun : List Copy → ℕ → List FlatVertex → Type 0
IsBegun cs place xs = xs ++ map (flat_vertex (kept cs)) (kept_from place (drop place cs)) ≡ map (flat_vertex (kept cs)) (kept cs)

begun_size : (cs : List Copy) (place : ℕ) (xs : List FlatVertex) → IsBegun cs place xs → length xs + length (kept_from place (drop place cs)) ≡ length (kept cs)
begun_size cs place xs h =
    let f : Numbered → FlatVertex = flat_vertex (kept cs) in
    let left : length (map f (kept_from place (drop place cs))) ≡ length (kept_from place (drop place cs)) = length-map (kept_from place (drop place cs)) f in
    let all : length (map f (kept cs)) ≡ length (kept cs) = length-map (kept cs) f in
    let both : length xs + length (map f (kept_from place (drop place cs))) ≡ length (map f (kept cs)) = sym (length-append xs (map f (kept_from place (drop place cs)))) ∙ ap length h in
    omega arith

pub begun_few : (cs : List Copy) (place : ℕ) (xs : List FlatVertex) → IsBegun cs place xs → length xs ≤ length cs
begun_few cs place xs h = omega (arith, begun_size cs place xs h, few_kept cs)

pub begun_count : (cs : List Copy) (place : ℕ) (xs : List FlatVertex) → place ≤ length cs → IsBegun cs place xs → length xs ≡ number_of (kept cs) place
begun_count cs place xs l h =
    let none : 0 + place ≡ place = omega arith in
    let both : number_of (kept cs) place + length (kept_from place (drop place cs)) ≡ length (kept cs) =
    subst (λ p. number_of (kept cs) p + length (kept_from p (drop place cs)) ≡ length (kept cs)) none (numbers_from 0 cs place l) in
    omega (arith, begun_size cs place xs h)

pub begun_keeps : (cs : List Copy) (i : ℕ) (c : Copy) (xs : List FlatVertex) (x : FlatVertex) → slice_get cs i ≡ Some c → is_wanted (kept_from (i + 1) (drop (i + 1) cs)) i c ≡ true
    → x ≡ flat_vertex (kept cs) (record { place = i; copy = c }) → IsBegun cs i xs → IsBegun cs (i + 1) (xs ++ x ∷ [])
begun_keeps cs i c xs x e wanted is h =
    let rest = kept_from (i + 1) (drop (i + 1) cs) in
    let own : Numbered = record { place = i; copy = c } in
    let f : Numbered → FlatVertex = flat_vertex (kept cs) in
    append_assoc xs (x ∷ []) (map f rest) ∙ ap (λ y. xs ++ y ∷ map f rest) is
    ∙ ap (λ ns. xs ++ map f ns) (sym (kept_at cs i c e ∙ ap (λ b. cond b (own ∷ rest) rest) wanted)) ∙ h

pub begun_skips : (cs : List Copy) (i : ℕ) (c : Copy) (xs : List FlatVertex) → slice_get cs i ≡ Some c → is_wanted (kept_from (i + 1) (drop (i + 1) cs)) i c ≡ false
    → IsBegun cs i xs → IsBegun cs (i + 1) xs
begun_skips cs i c xs e wanted h =
    let rest = kept_from (i + 1) (drop (i + 1) cs) in
    ap (λ ns. xs ++ map (flat_vertex (kept cs)) ns) (sym (kept_at cs i c e ∙ ap (λ b. cond b (record { place = i; copy = c } ∷ rest) rest) wanted)) ∙ h

map_same : (f g : ℕ → ℕ) (xs : List ℕ) → ((k j : ℕ) → slice_get xs k ≡ Some j → f j ≡ g j) → map f xs ≡ map g xs
map_same f g [] h = refl
map_same f g (x ∷ xs) h = λ i. h 0 x refl i ∷ map_same f g xs (λ k j e. h (suc k) j e) i

-- the inputs of a copy have their numbers
pub vertex_is : (ns : List Numbered) (i place : ℕ) (c : Copy) (numbers : List ℕ) → ((k j : ℕ) → slice_get c.inputs k ≡ Some j → j < i)
    → ((j : ℕ) → j < i → slice_get numbers j ≡ Some (number_of ns j)) → vertex_of numbers c ≡ flat_vertex ns (record { place = place; copy = c })
vertex_is ns i place c numbers lower known =
    let same = map_same (λ j. get_or numbers j 0) (number_of ns) c.inputs (λ k j e. get_or_from_slice_get numbers j (number_of ns j) 0 (known j (lower k j e))) in
    λ t. record { name = c.path; transform = c.number; inputs = same t }

---- the list of numbers

pub numbers_next : (f : ℕ → ℕ) (place n : ℕ) (xs : List ℕ) → length xs ≡ place → n ≡ f place → ((j : ℕ) → j < place → slice_get xs j ≡ Some (f j)) → (j : ℕ) → j < place + 1 → slice_get (xs ++ n ∷ []) j ≡ Some (f j)
numbers_next f place n xs size is known =
    below_more (λ j. slice_get (xs ++ n ∷ []) j ≡ Some (f j)) place (λ j l. get_front xs (n ∷ []) j (f j) (known j l))
    (ap (slice_get (xs ++ n ∷ [])) (sym size) ∙ get_seam xs n ∙ ap Some is)
