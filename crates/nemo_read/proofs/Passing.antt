-- Tests that everything passes that is read.
use Rattle.std.proofs.Common.{◌≡◌, refl, ℕ, List, Option, Some, None, option_map, option_and_then, Bool, true, false, ◌&&◌, if◌then◌else◌}
use Rattle.std.specs.Cmp.{first_so, second_so}
use Rattle.std.specs.List.{list_all}
use Rattle.serde_json.specs.Data.{Data, Items, no_items, item}
use Rattle.serde_json.specs.Find.{get, as_array}
use Rattle.nemo_read.specs.Parts.{with_first, each, array_of, member_of, tested}

-- whether what is there passes
abbrev pub passes : {X : Type 0} → (X → Bool) → Option X → Bool
passes test (Some x) = test x
passes test None = true

pub both : (a b : Bool) → a ≡ true → b ≡ true → (a && b) ≡ true
both true b h k = k
both false b h k = h

pub true_passes : {X : Type 0} (o : Option X) → passes (λ _. true) o ≡ true
true_passes (Some x) = refl
true_passes None = refl

pub if_passes : {X : Type 0} (test : X → Bool) (b : Bool) (o p : Option X) → passes test o ≡ true → passes test p ≡ true → passes test (if b then o else p) ≡ true
if_passes test true o p h k = h
if_passes test false o p h k = k

pub map_passes : {X Y : Type 0} (test : Y → Bool) (f : X → Y) (o : Option X) → passes (λ x. test (f x)) o ≡ true → passes test (option_map f o) ≡ true
map_passes test f (Some x) h = h
map_passes test f None h = refl

pub then_passes : {X Y : Type 0} (test : Y → Bool) (f : X → Option Y) (o : Option X) → ((x : X) → passes test (f x) ≡ true) → passes test (option_and_then f o) ≡ true
then_passes test f (Some x) h = h x
then_passes test f None h = refl

with_first_passes : {X : Type 0} (test : X → Bool) (first : Option X) (others : Option (List X)) → passes test first ≡ true → passes (list_all test) others ≡ true → passes (list_all test) (with_first first others) ≡ true
with_first_passes test (Some x) (Some xs) h k = both (test x) (list_all test xs) h k
with_first_passes test (Some x) None h k = refl
with_first_passes test None others h k = refl

each_passes : {X : Type 0} (reads : Data → Option X) (test : X → Bool) → ((d : Data) → passes test (reads d) ≡ true) → (ds : Items) → passes (list_all test) (each reads ds) ≡ true
each_passes reads test h no_items = refl
each_passes reads test h (item d ds) = with_first_passes test (reads d) (each reads ds) (h d) (each_passes reads test h ds)

-- the things in the array that is a member
pub array_passes : {X : Type 0} (reads : Data → Option X) (test : X → Bool) → ((d : Data) → passes test (reads d) ≡ true) → (name : List ℕ) (d : Data) → passes (list_all test) (member_of name (array_of reads) d) ≡ true
array_passes reads test h name d =
    then_passes (list_all test) (array_of reads) (get name d)
    (λ e. then_passes (list_all test) (each reads) (as_array e) (each_passes reads test h))

-- what passes both tests passes each of them
pub first_passes : {X : Type 0} (p q : X → Bool) (o : Option X) → passes (λ x. p x && q x) o ≡ true → passes p o ≡ true
first_passes p q (Some x) h = first_so (p x) (q x) h
first_passes p q None h = refl

pub second_passes : {X : Type 0} (p q : X → Bool) (o : Option X) → passes (λ x. p x && q x) o ≡ true → passes q o ≡ true
second_passes p q (Some x) h = second_so (p x) (q x) h
second_passes p q None h = refl

-- what a test has let through passes it, beside another
pub tested_passes : {X : Type 0} (test more : X → Bool) (o : Option X) → passes more o ≡ true → passes (λ x. test x && more x) (tested test o) ≡ true
tested_passes test more (Some x) h = go (test x) refl
  where
    go : (b : Bool) → test x ≡ b → passes (λ x. test x && more x) (if b then Some x else None) ≡ true
    go true e = both (test x) (more x) e h
    go false e = refl
tested_passes test more None h = refl
