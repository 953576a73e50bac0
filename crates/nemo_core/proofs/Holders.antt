-- Names are compared part by part.
use Rattle.std.proofs.Common.{◌≡◌, ◌≢◌, ℕ, ◌+◌, ◌-◌, ◌<◌, get_or, List, [], ◌∷◌, ◌++◌, Bool, true, false, take, drop, length, map, arith, ◌==◌, refl, sym, ap, ◌∙◌}
use Rattle.std.specs.Prelude.{◌&&◌, Option}
use Rattle.nemo_core.specs.declared.event.HeldBy.{HeldBy}
use Rattle.nemo_core.specs.State.{holder}
use Rattle.nemo_core.specs.Step.{are_holders}
use Rattle.nemo_core.proofs.Places.{next_at}
use Rattle.std.proofs.lemmas.Bool.{eq-eqb}
use Rattle.std.proofs.lemmas.Grind.{common_steps}
use Rattle.std.specs.List.{flat_map}

both_false : (a b : Bool) → b ≡ false → (a && b) ≡ false
both_false true b e = e
both_false false b e = refl

and_assoc : (a b c : Bool) → (a && (b && c)) ≡ ((a && b) && c)
and_assoc true b c = refl
and_assoc false b c = refl

drop_twice : {X : Type 0} (i n : ℕ) (xs : List X) → drop n (drop i xs) ≡ drop (i + n) xs
drop_twice i n xs = grind (arith, common_steps)

few_left : (names : List ℕ) (from count : ℕ) → length (take count (drop from names)) ≡ count → length names - from < count → ⊥
few_left names from count e short = grind (arith, common_steps)

pub uneven : (blocks : List (Option HeldBy)) (names : List ℕ) → length names ≢ length blocks → are_holders blocks names ≡ false
uneven [] [] h = absurd (h refl)
uneven [] (n ∷ ns) h = refl
uneven (b ∷ bs) [] h = refl
uneven (b ∷ bs) (n ∷ ns) h = both_false (n == holder b) (are_holders bs ns) (uneven bs ns (λ e. h (omega (arith, e))))

pub parts : (bs cs : List (Option HeldBy)) (names : List ℕ) → are_holders (bs ++ cs) names ≡ (are_holders bs (take (length bs) names) && are_holders cs (drop (length bs) names))
parts [] cs names = refl
parts (b ∷ bs) cs [] = refl
parts (b ∷ bs) cs (n ∷ ns) =
    ap (λ r. (n == holder b) && r) (parts bs cs ns)
    ∙ and_assoc (n == holder b) (are_holders bs (take (length bs) ns)) (are_holders cs (drop (length bs) ns))

-- one read more, from a place of the names on
pub named_turn : {R : Type 0} (f : R → List (Option HeldBy)) (reads : List R) (at : ℕ) (d : R) (names : List ℕ) (from count : ℕ) → at < length reads → count ≡ length (f (get_or reads at d)) → are_holders (flat_map f (drop at reads)) (drop from names) ≡ (are_holders (f (get_or reads at d)) (take count (drop from names)) && are_holders (flat_map f (drop (at + 1) reads)) (drop (from + count) names))
named_turn f reads at d names from count lt is =
    ap (λ rs. are_holders (flat_map f rs) (drop from names)) (next_at reads at d lt)
    ∙ parts (f (get_or reads at d)) (flat_map f (drop (at + 1) reads)) (drop from names)
    ∙ ap (λ n. are_holders (f (get_or reads at d)) (take n (drop from names)) && are_holders (flat_map f (drop (at + 1) reads)) (drop n (drop from names))) (sym is)
    ∙ ap (λ ns. are_holders (f (get_or reads at d)) (take count (drop from names)) && are_holders (flat_map f (drop (at + 1) reads)) ns) (drop_twice from count names)

first_false : (a b : Bool) → a ≡ false → (a && b) ≡ false
first_false a b e = ap (λ x. x && b) e

-- too few names are left
pub named_short : {R : Type 0} (f : R → List (Option HeldBy)) (reads : List R) (at : ℕ) (d : R) (names : List ℕ) (from count : ℕ) (whole : Bool) → at < length reads → count ≡ length (f (get_or reads at d)) → whole ≡ are_holders (flat_map f (drop at reads)) (drop from names) → length names - from < count → false ≡ whole
named_short f reads at d names from count whole lt is so_far short =
    let few : length (take count (drop from names)) ≢ length (f (get_or reads at d)) = λ e. few_left names from count (e ∙ sym is) short in
    sym (so_far ∙ named_turn f reads at d names from count lt is ∙ first_false _ _ (uneven (f (get_or reads at d)) (take count (drop from names)) few))

-- the names are others
pub named_other : {R : Type 0} (f : R → List (Option HeldBy)) (reads : List R) (at : ℕ) (d : R) (names : List ℕ) (from count : ℕ) (part : List ℕ) (is_part whole : Bool) → at < length reads → count ≡ length (f (get_or reads at d)) → whole ≡ are_holders (flat_map f (drop at reads)) (drop from names) → part ≡ take count (drop from names) → is_part ≡ are_holders (f (get_or reads at d)) part → is_part ≡ false → false ≡ whole
named_other f reads at d names from count part is_part whole lt is so_far taken tested other =
    sym (so_far ∙ named_turn f reads at d names from count lt is ∙ first_false _ _ (sym (tested ∙ ap (λ ns. are_holders (f (get_or reads at d)) ns) taken) ∙ other))

-- they are these
pub named_more : {R : Type 0} (f : R → List (Option HeldBy)) (reads : List R) (at : ℕ) (d : R) (names : List ℕ) (from count : ℕ) (part : List ℕ) (is_part whole : Bool) → at < length reads → count ≡ length (f (get_or reads at d)) → whole ≡ are_holders (flat_map f (drop at reads)) (drop from names) → part ≡ take count (drop from names) → is_part ≡ are_holders (f (get_or reads at d)) part → is_part ≡ true → whole ≡ are_holders (flat_map f (drop (at + 1) reads)) (drop (from + count) names)
named_more f reads at d names from count part is_part whole lt is so_far taken tested these =
    so_far ∙ named_turn f reads at d names from count lt is ∙ ap (λ b. b && are_holders (flat_map f (drop (at + 1) reads)) (drop (from + count) names)) (sym (tested ∙ ap (λ ns. are_holders (f (get_or reads at d)) ns) taken) ∙ these)

-- the attempts that hold blocks are their names
own_names : (bs : List (Option HeldBy)) → are_holders bs (map holder bs) ≡ true
own_names [] = refl
own_names (b ∷ bs) = ap (λ t. t && are_holders bs (map holder bs)) (eq-eqb (holder b) (holder b) refl) ∙ own_names bs

pub right_name : (n : ℕ) (bs : List (Option HeldBy)) → ((n == n) && are_holders bs (map holder bs)) ≡ true
right_name n bs = ap (λ t. t && are_holders bs (map holder bs)) (eq-eqb n n refl) ∙ own_names bs
