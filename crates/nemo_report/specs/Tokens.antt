-- What a writer holds after a value.
use Rattle.std.specs.Prelude.{◌≡◌, ◌++◌}
use Rattle.json.specs.Tree.{json_tokens}
use Rattle.json.specs.Written.{Written}
use Rattle.serde_json.specs.Data.{Data}
use Rattle.serde_json.specs.Written.{outline}

-- the tokens of the value come after those that were there
pub record AddsValue (old new : Written) (d : Data) : Type 0 where
  pub before : new.before ≡ old.before
  pub tokens : new.tokens ≡ old.tokens ++ json_tokens (outline d)
