use Rattle.std.proofs.Common.{◌≡◌, ◌++◌, take}
use Rattle.nemo_value.proofs.table.push_copies.Given as goal

-- the copies so far, behind the fields that were there
abbrev pub invariant-loop-field : goal.invariant-loop-field
invariant-loop-field l = l.fields.items ≡ l.initial.fields.items ++ take l.field-index l.more
