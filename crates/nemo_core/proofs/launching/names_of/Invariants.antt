use Rattle.std.proofs.Common.{◌≡◌, ◌++◌, drop, map}
use Rattle.std.specs.List.{flat_map}
use Rattle.nemo_core.specs.State.{holder, read_in}
use Rattle.nemo_core.proofs.launching.names_of.Given as goal

-- those so far, with those of the reads that are left
abbrev pub invariant-loop-read : goal.invariant-loop-read
invariant-loop-read l = l.names ++ map holder (flat_map (read_in l.blocks l.i) (drop l.read-index l.reads)) ≡ map holder (flat_map (read_in l.blocks l.i) l.reads)
