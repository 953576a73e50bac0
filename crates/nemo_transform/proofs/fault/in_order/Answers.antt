use Rattle.std.proofs.Common.{◌∙◌, ap, sym}
use Rattle.std.specs.BTreeSet.{insert_key}
use Rattle.nemo_value.proofs.AscendingLists.{ascending_more}
use Rattle.nemo_transform.specs.FaultOrder.{fault_cmp}
use Rattle.nemo_transform.proofs.FaultOrders.{fault_strict, one_order}
use Rattle.nemo_transform.proofs.fault.in_order.Goals as goal

pub loop-fault-preserved : goal.loop-fault-preserved
loop-fault-preserved c =
    let fault = c.in-Some.fault in
    c.in_ok-insert.ensures.keys
    ∙ ap (λ R. insert_key R c.loop-fault.seen.keys fault) one_order
    ∙ ap (λ keys. insert_key fault_cmp keys fault) c.loop-fault.invariant
    ∙ sym (ascending_more fault_cmp fault_strict c.loop-fault.yielded fault)
