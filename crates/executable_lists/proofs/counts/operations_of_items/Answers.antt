use Rattle.control_structure.specs.OwnOperations.{printed_operations}
use Rattle.control_structure.proofs.OwnExecutables.{counted-more}
use Rattle.executable_lists.proofs.counts.operations_of_items.Goals as goal

pub loop-item-preserved : goal.loop-item-preserved
loop-item-preserved c = λ checked.
    counted-more (printed_operations c.args.names.now checked) c.as_slice-item-items.result.now c.loop-item.item-index c.item-item.result c.loop-item.count c.operations_of_item.result c.saturating_add-count.result c.loop-item-test.true c.item-item.is (c.loop-item.invariant checked) (c.operations_of_item.ensures checked) c.saturating_add-count.ensures
