-- The words of the annotations and the policies, by which bundles name them.
use Rattle.std.specs.Prelude.{ℕ, List, [], ◌∷◌, Option, Some, None, codes, if◌then◌else◌}
use Rattle.nemo_value.specs.Texts.{same_text}
use Rattle.nemo_base.specs.declared.annotation.Class.{Class}
use Rattle.nemo_base.specs.declared.annotation.Class.TheVariants as class
use Rattle.nemo_base.specs.declared.annotation.Flow.{Flow}
use Rattle.nemo_base.specs.declared.annotation.Flow.TheVariants as flow
use Rattle.nemo_base.specs.declared.annotation.Keep.{Keep}
use Rattle.nemo_base.specs.declared.annotation.Keep.TheVariants as keep
use Rattle.nemo_base.specs.declared.annotation.Pattern.{Pattern}
use Rattle.nemo_base.specs.declared.annotation.Pattern.TheVariants as pattern
use Rattle.nemo_base.specs.declared.annotation.Policy.{Policy}
use Rattle.nemo_base.specs.declared.annotation.Policy.TheVariants as policy

-- the one of these whose word it is
abbrev pub named : {X : Type 0} → (X → List ℕ) → List X → List ℕ → Option X
named word_of [] word = None
named word_of (x ∷ xs) word = if same_text word (word_of x) then Some x else named word_of xs word

abbrev pub class_word : Class → List ℕ
class_word class.Reserved = codes "reserved"
class_word class.Transient = codes "transient"

abbrev pub class_named : List ℕ → Option Class
class_named = named class_word (class.Reserved ∷ class.Transient ∷ [])

abbrev pub pattern_word : Pattern → List ℕ
pattern_word pattern.OneToOne = codes "one"
pattern_word pattern.Broadcast = codes "broadcast"
pattern_word pattern.Hash = codes "hash"
pattern_word pattern.Spread = codes "spread"

abbrev pub pattern_named : List ℕ → Option Pattern
pattern_named = named pattern_word (pattern.OneToOne ∷ pattern.Broadcast ∷ pattern.Hash ∷ pattern.Spread ∷ [])

abbrev pub flow_word : Flow → List ℕ
flow_word flow.Push = codes "push"
flow_word flow.Pull = codes "pull"

abbrev pub flow_named : List ℕ → Option Flow
flow_named = named flow_word (flow.Push ∷ flow.Pull ∷ [])

abbrev pub keep_word : Keep → List ℕ
keep_word keep.Keep = codes "keep"
keep_word keep.Discard = codes "discard"

abbrev pub keep_named : List ℕ → Option Keep
keep_named = named keep_word (keep.Keep ∷ keep.Discard ∷ [])

abbrev pub policy_word : Policy → List ℕ
policy_word policy.Plain = codes "plain"
policy_word policy.Pado = codes "pado"
policy_word policy.Skew = codes "skew"
policy_word policy.PadoSkew = codes "pado_skew"

abbrev pub policy_named : List ℕ → Option Policy
policy_named = named policy_word (policy.Plain ∷ policy.Pado ∷ policy.Skew ∷ policy.PadoSkew ∷ [])
