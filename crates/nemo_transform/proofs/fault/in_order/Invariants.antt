use Rattle.std.proofs.Common.{◌≡◌, ◌++◌}
use Rattle.nemo_value.specs.Ascending.{ascending}
use Rattle.nemo_transform.specs.FaultOrder.{fault_cmp}
use Rattle.nemo_transform.proofs.fault.in_order.Given as goal

-- the different faults of those so far
abbrev pub invariant-loop-fault : goal.invariant-loop-fault
invariant-loop-fault l = l.seen.keys ≡ ascending fault_cmp l.yielded

abbrev pub invariant-loop-fault-2 : goal.invariant-loop-fault-2
invariant-loop-fault-2 l = l.all.items ++ l.fault-iterator ≡ ascending fault_cmp l.fn.faults.items
