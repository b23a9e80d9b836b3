use Rattle.std.proofs.Common.{◌≡◌, length, arith}
use Rattle.operation_tables.proofs.GrownLists.{item_at}
use Rattle.operation_tables.proofs.TableLemmas.{most_of_all}
use Rattle.operation_tables.proofs.tables.most_values.Goals as goal

pub most_of-requires-clause-operations : goal.most_of-requires-clause-operations
most_of-requires-clause-operations g c =
    let plan = c.args.plan.now in
    let at = item_at plan.pieces.items c.deref-operations-items.result.now c.loop-operations.operations-index c.operations-item.result c.deref-operations-items.ensures.value (omega arith) c.operations-item.is in
    plan.few_operations c.loop-operations.operations-index c.operations-item.result at

pub most_of-requires-clause-operands : goal.most_of-requires-clause-operands
most_of-requires-clause-operands g c = λ i operation is.
    let plan = c.args.plan.now in
    let at = item_at plan.pieces.items c.deref-operations-items.result.now c.loop-operations.operations-index c.operations-item.result c.deref-operations-items.ensures.value (omega arith) c.operations-item.is in
    plan.few_operands c.loop-operations.operations-index i c.operations-item.result operation at is

pub returns-clause-most : goal.returns-clause-most
returns-clause-most g c =
    let all : c.loop-operations.operations-index ≡ length c.args.plan.now.pieces.items = omega arith in
    most_of_all c.args.plan.now c.loop-operations.operations-index c.loop-operations.most c.loop-operations.invariant.most all
