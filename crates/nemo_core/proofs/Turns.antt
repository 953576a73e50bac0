-- One turn of the recursion of the needed tasks, and of a search among the tasks of a stage.
use Rattle.std.proofs.Common.{arith, ◌≡◌, ℕ, suc, ◌+◌, List, Bool, false, sym, ap, ◌∙◌}
use Rattle.std.specs.Prelude.{◌&&◌, ◌||◌, Option, None}
use Rattle.std.specs.List.{list_any}
use Rattle.nemo_value.specs.Counted.{counted}
use Rattle.nemo_base.specs.declared.graph.TaskGraph.{TaskGraph}
use Rattle.nemo_core.specs.Numbered.{or_else}
use Rattle.nemo_core.specs.Reading.{first_of}
use Rattle.nemo_core.specs.Needed.{needed_in, is_wanted_by, blocks_of}

abbrev pub gone_and_wanted : TaskGraph → (ℕ → ℕ → Bool) → ℕ → ℕ → ℕ → Bool
gone_and_wanted g gone left i v = gone v i && is_wanted_by g (needed_in g gone left) v i

pub needed_turn : (g : TaskGraph) (gone : ℕ → ℕ → Bool) (turns left stage i : ℕ) (vs : List ℕ) (r : Bool) → turns ≡ suc left → r ≡ list_any (gone_and_wanted g gone left i) vs → vs ≡ blocks_of g stage → r ≡ needed_in g gone turns stage i
needed_turn g gone turns left stage i vs r e is made =
    is ∙ ap (λ x. list_any (gone_and_wanted g gone left i) x) made ∙ sym (ap (λ n. needed_in g gone n stage i) e)

one_more : (i : ℕ) → suc i ≡ i + 1
one_more i = omega arith

pub any_skip : (f : ℕ → Bool) (i n m : ℕ) → n ≡ suc m → f i ≡ false → list_any f (counted i n) ≡ list_any f (counted (i + 1) m)
any_skip f i n m e fails = ap (λ k. list_any f (counted i k)) e ∙ ap (λ b. b || list_any f (counted (suc i) m)) fails ∙ ap (λ k. list_any f (counted k m)) (one_more i)

pub first_skip : {Y : Type 0} (f : ℕ → Option Y) (i n m : ℕ) → n ≡ suc m → f i ≡ None → first_of f (counted i n) ≡ first_of f (counted (i + 1) m)
first_skip f i n m e fails = ap (λ k. first_of f (counted i k)) e ∙ ap (λ o. or_else o (first_of f (counted (suc i) m))) fails ∙ ap (λ k. first_of f (counted k m)) (one_more i)
