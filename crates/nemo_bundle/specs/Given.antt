-- Which of the optional members a bundle has.
use Rattle.std.specs.Prelude.{ℕ, Bool, List, is_some, codes}
use Rattle.serde_json.specs.Data.{Data}
use Rattle.serde_json.specs.Find.{get}
use Rattle.nemo_bundle.specs.declared.given.Given.{Given}

-- whether there is a member of this name
abbrev pub has : List ℕ → Data → Bool
has name d = is_some (get name d)

abbrev pub given_in : Data → Given
given_in d = record {
  cluster = has (codes "cluster") d;
  policy = has (codes "policy") d;
  settings = has (codes "settings") d;
  script = has (codes "script") d;
  schedule = has (codes "schedule") d;
  dag = has (codes "dag") d;
}
