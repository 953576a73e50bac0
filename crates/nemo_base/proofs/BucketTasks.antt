-- Each bucket lies on one task.
use Rattle.std.proofs.Common.{arith, ◌≡◌, ◌∙◌, refl, sym, ap, subst, ℕ, zero, suc, ◌+◌, ◌-◌, ◌<◌, ◌≤◌, ◌&&◌, List, [], ◌∷◌, length, Bool, true, false, cond, nat_le, nat_lt, Some, None, get_or}
use Rattle.std.proofs.lemmas.Bool.{le-leb, leb-true, lt-leb}
use Rattle.std.specs.Cmp.{second_so}
use Rattle.nemo_base.specs.Cuts.{bad_cut, task_at}

-- what an entry that isn't bad says
good : (i before cut : ℕ) (cuts : List ℕ) → bad_cut i before (cut ∷ cuts) ≡ None → (before ≤ cut) × (bad_cut (i + 1) cut cuts ≡ None)
good i before cut cuts h = go (nat_lt i 63 && nat_le cut 256 && nat_le before cut) refl h
  where
    go : (b : Bool) → (nat_lt i 63 && nat_le cut 256 && nat_le before cut) ≡ b → cond b (bad_cut (i + 1) cut cuts) (Some i) ≡ None → (before ≤ cut) × (bad_cut (i + 1) cut cuts ≡ None)
    go true e g = (leb-true before cut (second_so (nat_lt i 63 && nat_le cut 256) (nat_le before cut) e), g)
    go false e g = cc

-- none falls below the one before
above : (i before : ℕ) (cuts : List ℕ) (k : ℕ) → bad_cut i before cuts ≡ None → k < length cuts → before ≤ get_or cuts k 0
above i before [] k h low = absurd (omega arith)
above i before (cut ∷ cuts) zero h low = (good i before cut cuts h).0
above i before (cut ∷ cuts) (suc k) h low =
    let g = good i before cut cuts h in
    let later : cut ≤ get_or cuts k 0 = above (i + 1) cut cuts k g.1 (omega arith) in
    omega (arith, g.0)

-- the one task whose cuts are around the bucket
pub one_task : (i before : ℕ) (cuts : List ℕ) (bucket task : ℕ) → bad_cut i before cuts ≡ None → task ≤ length cuts
    → (0 < task → get_or cuts (task - 1) 0 ≤ bucket) → (task < length cuts → bucket < get_or cuts task 0) → task ≡ task_at cuts bucket
one_task i before [] bucket task h few from to = omega arith
one_task i before (cut ∷ cuts) bucket zero h few from to =
    let high : bucket < cut = to (omega arith) in
    λ j. cond (sym (lt-leb cut bucket high) j) (suc (task_at cuts bucket)) 0
one_task i before (cut ∷ cuts) bucket (suc task) h few from to =
    let g = good i before cut cuts h in
    let here : suc task - 1 ≡ task = omega arith in
    let last : get_or (cut ∷ cuts) task 0 ≤ bucket = subst (λ n. get_or (cut ∷ cuts) n 0 ≤ bucket) here (from (omega arith)) in
    let passed : cut ≤ bucket = first_passed task (omega arith) last in
    let rest = one_task (i + 1) cut cuts bucket task g.1 (omega arith) (λ some. later task some last) (λ low. to (omega arith)) in
    ap suc rest ∙ (λ j. cond (sym (le-leb cut bucket passed) j) (suc (task_at cuts bucket)) 0)
  where
    first_passed : (k : ℕ) → k ≤ length cuts → get_or (cut ∷ cuts) k 0 ≤ bucket → cut ≤ bucket
    first_passed zero low at = at
    first_passed (suc k) low at = let up : cut ≤ get_or cuts k 0 = above (i + 1) cut cuts k (good i before cut cuts h).1 (omega arith) in omega arith

    later : (k : ℕ) → 0 < k → get_or (cut ∷ cuts) k 0 ≤ bucket → get_or cuts (k - 1) 0 ≤ bucket
    later zero some at = absurd (omega arith)
    later (suc k) some at = let one : suc k - 1 ≡ k = omega arith in subst (λ n. get_or cuts n 0 ≤ bucket) (sym one) at
