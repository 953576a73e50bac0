-- What a bundle says of the run: its cluster, parallelism, policy and settings.
use Rattle.std.specs.Prelude.{ℕ, ◌+◌, ◌&&◌, nat_le, Bool, true, if◌then◌else◌, List, Option, Some, None, option_and_then, is_some, Result, Ok, Err, codes}
use Rattle.serde_json.specs.Data.{Data}
use Rattle.serde_json.specs.Find.{get, as_str, as_object}
use Rattle.nemo_base.specs.declared.annotation.Policy.{Policy}
use Rattle.nemo_base.specs.declared.annotation.Policy.TheVariants.{Plain}
use Rattle.nemo_base.specs.Settings.{SettingsForm, default_settings}
use Rattle.nemo_base.specs.Words.{policy_named}
use Rattle.nemo_read.specs.Parts.{member_of, number_of, ranged, tested}
use Rattle.nemo_bundle.specs.declared.choices.Choices.{Choices}
use Rattle.nemo_bundle.specs.declared.choices.Cluster.{Cluster}

---- the cluster

-- the slots of a run
abbrev pub cluster_of : SettingsForm → Cluster
cluster_of settings = record { reserved = settings.reserved; transient = settings.transient }

abbrev pub cluster_with : Option ℕ → Option ℕ → Option Cluster
cluster_with (Some reserved) (Some transient) = Some (record { reserved = reserved; transient = transient })
cluster_with (Some reserved) None = None
cluster_with None transient = None

-- at least one reserved slot, and at most 64 slots together
abbrev pub is_cluster : Cluster → Bool
is_cluster c = nat_le 1 c.reserved && nat_le (c.reserved + c.transient) 64

abbrev pub cluster_from : Data → Option Cluster
cluster_from d = tested is_cluster (cluster_with (member_of (codes "reserved") number_of d) (member_of (codes "transient") number_of d))

-- the default slots where the member is absent
abbrev pub cluster_in : Option Data → Option Cluster
cluster_in (Some d) = cluster_from d
cluster_in None = Some (cluster_of default_settings)

---- parallelism and policy

-- 1 to 64, and 4 where the member is absent
abbrev pub parallelism_in : Option Data → Option ℕ
parallelism_in (Some d) = ranged 1 64 d
parallelism_in None = Some 4

-- plain where the member is absent
abbrev pub policy_in : Option Data → Option Policy
policy_in (Some d) = option_and_then policy_named (as_str d)
policy_in None = Some Plain

---- settings

-- a number of a range, with what stands for it where it is absent
abbrev pub number_in : ℕ → ℕ → ℕ → Option Data → Option ℕ
number_in least most usual (Some d) = ranged least most d
number_in least most usual None = Some usual

-- of the member `settings`, which may be absent, the member of a name
abbrev pub setting : List ℕ → Option Data → Option Data
setting name settings = option_and_then (get name) settings

-- it is absent, or an object
abbrev pub is_record : Option Data → Bool
is_record (Some d) = is_some (as_object d)
is_record None = true

abbrev pub loss_bound_in : Option Data → Option ℕ
loss_bound_in settings = if is_record settings then number_in 1 1000 default_settings.loss_bound (setting (codes "loss_bound") settings) else None

abbrev pub piece_in : Option Data → Option ℕ
piece_in settings = number_in 1 1048576 default_settings.piece (setting (codes "piece") settings)

abbrev pub sample_in : Option Data → Option ℕ
sample_in settings = number_in 1 1000 default_settings.sample (setting (codes "sample") settings)

abbrev pub decoded_in : Option Data → Option ℕ
decoded_in settings = number_in 0 1073741824 default_settings.decoded (setting (codes "decoded") settings)

---- all of them

-- what is there, or its place
abbrev pub wanted : {X Y : Type 0} → ℕ → Option X → (X → Result Y ℕ) → Result Y ℕ
wanted place (Some x) f = f x
wanted place None f = Err place

-- the first that is outside of its form, or all of them
abbrev pub settings_of : Cluster → Option Data → Result SettingsForm ℕ
settings_of c d =
    wanted 3 (loss_bound_in d) (λ loss_bound. wanted 4 (piece_in d) (λ piece. wanted 5 (sample_in d) (λ sample. wanted 6 (decoded_in d) (λ decoded.
    Ok (record { reserved = c.reserved; transient = c.transient; loss_bound = loss_bound; piece = piece; sample = sample; decoded = decoded })))))

abbrev pub choices_with : ℕ → Policy → Result SettingsForm ℕ → Result Choices ℕ
choices_with p policy (Ok settings) = Ok (record { parallelism = p; policy = policy; settings = settings })
choices_with p policy (Err place) = Err place

abbrev pub choices_of : Data → Result Choices ℕ
choices_of d =
    wanted 0 (cluster_in (get (codes "cluster") d)) (λ c. wanted 1 (parallelism_in (get (codes "parallelism") d)) (λ p. wanted 2 (policy_in (get (codes "policy") d)) (λ policy.
    choices_with p policy (settings_of c (get (codes "settings") d)))))
