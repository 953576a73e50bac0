-- What need by turns says on sound graphs.
use Rattle.std.specs.Prelude.{◌≡◌, ◌&&◌, ℕ, Bool, true}
use Rattle.std.specs.List.{list_any}
use Rattle.nemo_base.specs.declared.graph.TaskGraph.{TaskGraph}
use Rattle.nemo_base.specs.Needed.{blocks_of, needed, wanted}
use Rattle.nemo_base.specs.Sound.{is_sound}

-- a task is needed exactly where one of its blocks is gone and wanted
abbrev pub NeedMeets : Type 0
NeedMeets =
    (g : TaskGraph) (gone : ℕ → ℕ → Bool) → is_sound g ≡ true
    → (stage i : ℕ) → needed g gone stage i ≡ list_any (λ v. gone v i && wanted g gone v i) (blocks_of g stage)

-- where more is gone, more is needed
abbrev pub NeedGrows : Type 0
NeedGrows =
    (g : TaskGraph) (gone more : ℕ → ℕ → Bool) → is_sound g ≡ true → ((v i : ℕ) → gone v i ≡ true → more v i ≡ true)
    → (stage i : ℕ) → needed g gone stage i ≡ true → needed g more stage i ≡ true

-- where more is gone, more is wanted
abbrev pub WantGrows : Type 0
WantGrows =
    (g : TaskGraph) (gone more : ℕ → ℕ → Bool) → is_sound g ≡ true → ((v i : ℕ) → gone v i ≡ true → more v i ≡ true)
    → (v i : ℕ) → wanted g gone v i ≡ true → wanted g more v i ≡ true

-- where nothing that is gone besides is wanted, need and want stay the same
abbrev pub NeedStays : Type 0
NeedStays =
    (g : TaskGraph) (gone more : ℕ → ℕ → Bool) → is_sound g ≡ true → ((v i : ℕ) → gone v i ≡ true → more v i ≡ true)
    → ((v i : ℕ) → more v i ≡ true → wanted g gone v i ≡ true → gone v i ≡ true)
    → (n i : ℕ) → (needed g more n i ≡ needed g gone n i) × (wanted g more n i ≡ wanted g gone n i)

pub record NeedLaw : Type 0 where
  pub meets : NeedMeets
  pub grows : NeedGrows
  pub wants : WantGrows
  pub stays : NeedStays
