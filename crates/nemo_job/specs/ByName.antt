-- Maps by names.
use Rattle.std.specs.Prelude.{ℕ, List, Option}
use Rattle.indexmap.specs.IndexMap.{IndexMap, get_by}
use denote.Ref.{Bor}
use Rattle.nemo_value.specs.Texts.{same_text}

-- what a map by names has for this one
abbrev pub named_in : {V S : Type 0} → IndexMap (Bor (List ℕ)) V S → List ℕ → Option V
named_in by_name name = get_by (λ k. same_text name k.now) by_name
