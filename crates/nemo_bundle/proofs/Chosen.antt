-- Choices with settings that were read.
use Rattle.std.proofs.Common.{◌≡◌, refl, ℕ, Some, Result, Ok, Err, codes}
use Rattle.serde_json.specs.Data.{Data}
use Rattle.serde_json.specs.Find.{get}
use Rattle.nemo_base.specs.declared.annotation.Policy.{Policy}
use Rattle.nemo_base.specs.Settings.{SettingsForm}
use Rattle.nemo_bundle.specs.Answers.{Walks}
use Rattle.nemo_bundle.specs.Choices.{choices_of, choices_with, cluster_in, parallelism_in, policy_in, settings_of}
use Rattle.nemo_bundle.specs.declared.choices.Choices.{Choices}
use Rattle.nemo_bundle.specs.declared.choices.Cluster.{Cluster}
use Rattle.nemo_bundle.specs.declared.end.WalkEnd.{WalkEnd}
use Rattle.nemo_bundle.specs.declared.end.WalkEnd.TheVariants as walk

pub chosen_with : (d : Data) (c : Cluster) (p : ℕ) (policy : Policy) → cluster_in (get (codes "cluster") d) ≡ Some c → parallelism_in (get (codes "parallelism") d) ≡ Some p
    → policy_in (get (codes "policy") d) ≡ Some policy → choices_of d ≡ choices_with p policy (settings_of c (get (codes "settings") d))
chosen_with d c p policy h i j = rw (h, i, j) refl

pub ends_with : (p : ℕ) (policy : Policy) (r : Result SettingsForm ℕ) (e : WalkEnd) → Walks {X = SettingsForm} (λ s. s) (Err e) r
    → Walks {X = Choices} (λ c. c) (Err e) (choices_with p policy r)
ends_with p policy (Ok s) (walk.Malformed place) h = absurd (let e : Ok s ≡ Err h.0 = h.1 in cc)
ends_with p policy (Err i) (walk.Malformed place) h = (h.0, (let e : Err i ≡ Err h.0 = h.1 in cc), h.2)
ends_with p policy r walk.NoMemory h = tt

pub made_with : (p : ℕ) (policy : Policy) (r : Result SettingsForm ℕ) (s : SettingsForm) → r ≡ Ok s
    → choices_with p policy r ≡ Ok (record { parallelism = p; policy = policy; settings = s })
made_with p policy (Ok t) s h = cc
made_with p policy (Err i) s h = absurd cc
