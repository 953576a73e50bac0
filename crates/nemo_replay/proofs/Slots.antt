-- The slots that a run on one thread launches on.
use Rattle.std.proofs.Common.{arith, ◌≡◌, ◌∙◌, ap, sym, refl, ℕ, zero, suc, ◌+◌, ◌%◌, ◌<◌, ◌≤◌, ◌==◌, nat_lt, nat_le, Bool, true, false, ◌∷◌, ◌++◌, cond, length, max, slice_index_or, if◌then◌else◌}
use Rattle.std.specs.List.{filter}
use Rattle.std.proofs.lemmas.Bool.{lt-ltb, le-leb, lt-leb, eqb-false, eqb-true}
use Rattle.std.proofs.lemmas.List.Elements.{filter-append}
use Rattle.nemo_base.specs.declared.annotation.Class.TheVariants.{Transient}
use Rattle.nemo_base.specs.Settings.{AreInRange, SettingsForm}
use Rattle.nemo_ir.specs.Along.{below, counted}
use Rattle.nemo_core.specs.Step.{fits}
use Rattle.nemo_laws.specs.Solo.{fitting}
use Rattle.nemo_replay.specs.StageRun.{slot_of}
use Rattle.nemo_replay.proofs.Counted.{counted_append, filter_none}
use Rattle.nemo_replay.proofs.Launches.{IsSlot}

---- the slots that fit

all_pass : (p : ℕ → Bool) (a n : ℕ) → ((j : ℕ) → a ≤ j → j < a + n → p j ≡ true) → filter p (counted a n) ≡ counted a n
all_pass p a zero f = refl
all_pass p a (suc n) f =
    ap (λ b. cond b (a ∷ filter p (counted (suc a) n)) (filter p (counted (suc a) n))) (f a (omega arith) (omega arith))
    ∙ ap (λ js. a ∷ js) (all_pass p (suc a) n (λ j low high. f j (omega arith) (omega arith)))

-- the first of them, and how many there are
abbrev first_fit : Bool → SettingsForm → ℕ
first_fit b k = if b then 0 else k.reserved

abbrev fit_count : Bool → SettingsForm → ℕ
fit_count b k = if b then k.reserved else k.transient

fitting_are : (k : SettingsForm) (b : Bool) → (k.transient == 0) ≡ b → fitting k Transient ≡ counted (first_fit b k) (fit_count b k)
fitting_are k true e =
    let none : k.transient ≡ 0 = eqb-true k.transient 0 e in
    let count : k.reserved + k.transient ≡ k.reserved = omega arith in
    ap (λ n. filter (λ slot. fits k slot Transient) (below n)) count
    ∙ all_pass (λ slot. fits k slot Transient) 0 k.reserved
    (λ j low high. ap (λ t. if t then nat_lt j k.reserved else nat_le k.reserved j) e ∙ lt-ltb j k.reserved (omega arith))
fitting_are k false e =
    let zero_on : 0 + k.reserved ≡ k.reserved = omega arith in
    ap (filter (λ slot. fits k slot Transient)) (counted_append 0 k.reserved k.transient ∙ ap (λ r. below k.reserved ++ counted r k.transient) zero_on)
    ∙ filter-append (λ slot. fits k slot Transient) (below k.reserved) (counted k.reserved k.transient)
    ∙ ap (λ js. js ++ filter (λ slot. fits k slot Transient) (counted k.reserved k.transient))
    (filter_none (λ slot. fits k slot Transient) k.reserved (λ j lt. ap (λ t. if t then nat_lt j k.reserved else nat_le k.reserved j) e ∙ lt-leb k.reserved j lt))
    ∙ all_pass (λ slot. fits k slot Transient) k.reserved k.transient
    (λ j low high. ap (λ t. if t then nat_lt j k.reserved else nat_le k.reserved j) e ∙ le-leb k.reserved j low)

---- the one at a place

count_is : (a n : ℕ) → length (counted a n) ≡ n
count_is a zero = refl
count_is a (suc n) = let more : length (counted (suc a) n) ≡ n = count_is (suc a) n in omega arith

at_place : (a n j : ℕ) → j < n → slice_index_or (counted a n) j 0 ≡ a + j
at_place a zero j lt = absurd (omega arith)
at_place a (suc n) zero lt = omega arith
at_place a (suc n) (suc j) lt = let same : suc a + j ≡ a + suc j = omega arith in at_place (suc a) n j (omega arith) ∙ same

max_one : (n : ℕ) → 1 ≤ n → max 1 n ≡ n
max_one zero h = absurd (omega arith)
max_one (suc n) h = omega arith

less : (i n : ℕ) → 1 ≤ n → i % n < n
less i n h = omega arith

module _ (k : SettingsForm) (i : ℕ) (range : AreInRange k) where
  some_fit : (b : Bool) → (k.transient == 0) ≡ b → 1 ≤ fit_count b k
  some_fit true e = range.reserved
  some_fit false e = let some : k.transient ≡ 0 → ⊥ = eqb-false k.transient 0 e in omega (arith, some)

  -- the slot is this one of them
  slot_at : (b : Bool) → (k.transient == 0) ≡ b → slot_of k i ≡ first_fit b k + i % fit_count b k
  slot_at b e =
      let n = fit_count b k in
      let some : 1 ≤ n = some_fit b e in
      ap (λ js. slice_index_or js (i % max 1 (length js)) 0) (fitting_are k b e)
      ∙ ap (λ c. slice_index_or (counted (first_fit b k) n) (i % max 1 c) 0) (count_is (first_fit b k) n)
      ∙ ap (λ c. slice_index_or (counted (first_fit b k) n) (i % c) 0) (max_one n some)
      ∙ at_place (first_fit b k) n (i % n) (less i n some)

  pub slot_reserved : (k.transient == 0) ≡ true → i % k.reserved ≡ slot_of k i
  slot_reserved e = let at : slot_of k i ≡ 0 + i % k.reserved = slot_at true e in omega (arith, at)

  pub slot_transient : (k.transient == 0) ≡ false → k.reserved + i % k.transient ≡ slot_of k i
  slot_transient e = sym (slot_at false e)

  good : (b : Bool) → (k.transient == 0) ≡ b → IsSlot k (slot_of k i)
  good true e =
      let is : slot_of k i ≡ i % k.reserved = sym (slot_reserved e) in
      let below_all : i % k.reserved < k.reserved = less i k.reserved range.reserved in
      record {
        within = omega (arith, is, below_all);
        fitting = ap (λ t. if t then nat_lt (slot_of k i) k.reserved else nat_le k.reserved (slot_of k i)) e ∙ lt-ltb (slot_of k i) k.reserved (omega (arith, is, below_all));
      }
  good false e =
      let is : slot_of k i ≡ k.reserved + i % k.transient = sym (slot_transient e) in
      let below_all : i % k.transient < k.transient = less i k.transient (some_fit false e) in
      record {
        within = omega (arith, is, below_all);
        fitting = ap (λ t. if t then nat_lt (slot_of k i) k.reserved else nat_le k.reserved (slot_of k i)) e ∙ le-leb k.reserved (slot_of k i) (omega (arith, is));
      }

  pub slot_good : IsSlot k (slot_of k i)
  slot_good = good (k.transient == 0) refl
