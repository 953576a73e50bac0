-- What is held of the vertices that a vertex takes.
use Rattle.std.proofs.Common.{◌≡◌, ◌∙◌, refl, sym, ap, subst, ℕ, ◌+◌, ◌<◌, List, [], ◌∷◌, ◌++◌, length, map, take, get_or, Option, Some, None}
use Rattle.std.specs.Prelude.{slice_get, option_map, is_some, All}
use Rattle.std.proofs.lemmas.List.Elements.{All-get_or}
use Rattle.std.specs.List.{flat_map}
use Rattle.std.proofs.lemmas.Grind.{flat_map-append}
use Rattle.std.proofs.lemmas.List.{get_or-map, take_more, append-nil}
use Rattle.std.proofs.lemmas.List.Folds.{flat_map-map}
use Rattle.std.proofs.lemmas.Option.{slice_get-map, slice_get_read}
use Rattle.nemo_transform.specs.Brought.{port, all_rows, all_faults, nothing}
use Rattle.nemo_transform.specs.Gives.{Row, is_filled}
use Rattle.nemo_transform.specs.FirstFault.{first_fault, arisen_at, lesser_by}
use Rattle.nemo_transform.specs.ArisenOrder.{place_cmp}
use Rattle.nemo_transform.specs.Through.{Batch}
use Rattle.nemo_transform.specs.declared.fault.Located.{Located}
use Rattle.nemo_transform.proofs.FirstFaults.{first_fault_both, some_first}
use Rattle.nemo_job.specs.HeldRows.{rows_held}
use Rattle.nemo_job.specs.ByPlace.{ByPlace}
use Rattle.nemo_job.specs.Held.{Feeds, known, known_value}
use Rattle.nemo_job.specs.declared.held.Held.{Held}

pub some_one : {X : Type 0} (a b : X) → Some a ≡ Some b → a ≡ b
some_one a b e = cc

-- the item at a place, as code reads it
pub read_at : {X : Type 0} (xs : List X) (i : ℕ) (x : X) → i < length xs → x ≡ get_or xs i x → slice_get xs i ≡ Some x
read_at xs i x within is = slice_get_read xs (length xs) i x refl within is

-- what is held of the vertex that an input names
pub fed : (vals : List ByPlace) (held : List Held) (inputs : List ℕ) (i : ℕ) (h : Held) → Feeds vals (map known held) inputs → All (λ j. j < length held) inputs → i < length inputs → h ≡ get_or held (get_or inputs i 0) h → known h ≡ known_value (port vals (get_or inputs i 0))
fed vals held inputs i h feeds within low is =
    let j = get_or inputs i 0 in
    let there : slice_get (map known held) j ≡ Some (known h) =
    slice_get-map known held j ∙ ap (option_map known) (read_at held j h (All-get_or (λ k. k < length held) inputs i 0 low within) is) in
    let both : slice_get (map known held) j ≡ Some (known_value (port vals j)) =
    sym (get_or-map (slice_get (map known held)) inputs i 0 None low) ∙ ap (λ l. get_or l i None) feeds ∙ get_or-map (λ k. Some (known_value (port vals k))) inputs i 0 None low in
    some_one _ _ (sym there ∙ both)

some_kept : (first : Option Located) → is_some first ≡ is_some (option_map arisen_at first)
some_kept None = refl
some_kept (Some x) = refl

-- one item more
flat_more : {A B : Type 0} (g : A → List B) (xs : List A) (i : ℕ) (d : A) → i < length xs → flat_map g (take (i + 1) xs) ≡ flat_map g (take i xs) ++ g (get_or xs i d)
flat_more g xs i d low =
    ap (flat_map g) (take_more xs i d low) ∙ flat_map-append g (take i xs) (get_or xs i d ∷ [])
    ∙ ap (λ l. flat_map g (take i xs) ++ l) (append-nil (g (get_or xs i d)))

brought_more : {B : Type 0} (g : ByPlace → List B) (vals : List ByPlace) (inputs : List ℕ) (i : ℕ) → i < length inputs → flat_map g (map (port vals) (take (i + 1) inputs)) ≡ flat_map g (map (port vals) (take i inputs)) ++ g (port vals (get_or inputs i 0))
brought_more g vals inputs i low =
    flat_map-map g (port vals) (take (i + 1) inputs) ∙ flat_more (λ k. g (port vals k)) inputs i 0 low
    ∙ ap (λ l. l ++ g (port vals (get_or inputs i 0))) (sym (flat_map-map g (port vals) (take i inputs)))

-- the first fault that the inputs bring, with one input more
pub passed_more : (vals : List ByPlace) (held : List Held) (inputs : List ℕ) (i : ℕ) (h : Held) (first more copy : Option Located) → Feeds vals (map known held) inputs → All (λ j. j < length held) inputs → i < length inputs → h ≡ get_or held (get_or inputs i 0) h → copy ≡ h.first
    → option_map arisen_at more ≡ lesser_by place_cmp (option_map arisen_at first) (option_map arisen_at copy)
    → option_map arisen_at first ≡ first_fault (all_faults (map (port vals) (take i inputs))) → option_map arisen_at more ≡ first_fault (all_faults (map (port vals) (take (i + 1) inputs)))
passed_more vals held inputs i h first more copy feeds within low is same least so =
    let here : option_map arisen_at copy ≡ first_fault (port vals (get_or inputs i 0)).faults = ap (option_map arisen_at) same ∙ ap (λ k. k.first) (fed vals held inputs i h feeds within low is) in
    least ∙ (λ z. lesser_by place_cmp (so z) (here z))
    ∙ sym (first_fault_both (all_faults (map (port vals) (take i inputs))) (port vals (get_or inputs i 0)).faults)
    ∙ sym (ap first_fault (brought_more (λ f. f.faults) vals inputs i low))

-- the rows that the inputs bring, with one input more
pub joined_more : (vals : List ByPlace) (held : List Held) (inputs : List ℕ) (i : ℕ) (h : Held) (rows more copies : List Row) → Feeds vals (map known held) inputs → All (λ j. j < length held) inputs → i < length inputs → h ≡ get_or held (get_or inputs i 0) h → copies ≡ rows_held h.rows → more ≡ rows ++ copies
    → rows ≡ all_rows (map (port vals) (take i inputs)) → more ≡ all_rows (map (port vals) (take (i + 1) inputs))
joined_more vals held inputs i h rows more copies feeds within low is same put so =
    let here : copies ≡ (port vals (get_or inputs i 0)).rows = same ∙ ap (λ k. k.rows) (fed vals held inputs i h feeds within low is) in
    put ∙ (λ z. so z ++ here z)
    ∙ sym (brought_more (λ f. f.rows) vals inputs i low)

-- the rows of the port of a number
pub rows_of_port : (vals : List ByPlace) (held : List Held) (inputs : List ℕ) (i : ℕ) (h : Held) → Feeds vals (map known held) inputs → All (λ j. j < length held) inputs → i < length inputs → h ≡ get_or held (get_or inputs i 0) h → rows_held h.rows ≡ (port (map (port vals) inputs) i).rows
rows_of_port vals held inputs i h feeds within low is =
    ap (λ k. k.rows) (fed vals held inputs i h feeds within low is)
    ∙ sym (ap (λ f. f.rows) (get_or-map (port vals) inputs i 0 nothing low))

-- whether the port of a number brings faults
pub faults_of_port : (vals : List ByPlace) (held : List Held) (inputs : List ℕ) (i : ℕ) (h : Held) → Feeds vals (map known held) inputs → All (λ j. j < length held) inputs → i < length inputs → h ≡ get_or held (get_or inputs i 0) h → is_some h.first ≡ is_filled (port vals (get_or inputs i 0)).faults
faults_of_port vals held inputs i h feeds within low is =
    some_kept h.first ∙ ap (λ k. is_some k.first) (fed vals held inputs i h feeds within low is) ∙ some_first (port vals (get_or inputs i 0)).faults

pub fed_through : (vals : List ByPlace) (held : List Batch) (xs ys : List ℕ) → xs ≡ ys → Feeds vals held ys → Feeds vals held xs
fed_through vals held xs ys e feeds = subst (Feeds vals held) (sym e) feeds
