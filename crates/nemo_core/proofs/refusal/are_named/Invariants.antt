use Rattle.std.proofs.Common.{◌≡◌, ◌≤◌, drop, length}
use Rattle.std.specs.List.{flat_map}
use Rattle.nemo_core.specs.State.{read_in}
use Rattle.nemo_core.specs.Step.{are_holders}
use Rattle.nemo_core.proofs.refusal.are_named.Given as goal

-- the names that are left name the blocks of the reads that are left
abbrev pub invariant-loop-read : goal.invariant-loop-read
invariant-loop-read l = record {
  so_far : are_holders (flat_map (read_in l.blocks l.i) l.reads) l.names ≡ are_holders (flat_map (read_in l.blocks l.i) (drop l.read-index l.reads)) (drop l.at l.names);
  within : l.at ≤ length l.names;
}
