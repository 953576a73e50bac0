-- Rows that are made field by field.
use Rattle.std.proofs.Common.{◌≡◌, refl, ◌++◌, ◌∷◌, [], append_assoc, Result, Ok, Err}
use Rattle.nemo_value.specs.declared.field.Field.{Field}
use Rattle.nemo_value.specs.declared.expr.Kind.{Kind}
use Rattle.nemo_transform.specs.Gives.{Row, before}

-- fields in front of the others, unless there is a fault
abbrev pub with_front : Row → Result Row Kind → Result Row Kind
with_front fs (Ok gs) = Ok (fs ++ gs)
with_front fs (Err k) = Err k

pub with_front-more : (fs : Row) (f : Field) (rest : Result Row Kind) → with_front (fs ++ f ∷ []) rest ≡ with_front fs (before (Ok f) rest)
with_front-more fs f (Ok gs) = simp append_assoc
with_front-more fs f (Err k) = refl

pub ruleset more = with_front-more
