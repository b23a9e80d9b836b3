use Rattle.std.proofs.Common.{arith}
use Rattle.operation_tables.specs.BoardView.{operation_net_on}
use Rattle.operation_tables.proofs.OperationRanges.{nodes_within, operations_within}
use Rattle.operation_tables.proofs.lookups.OperationBoard.decision.Goals as goal

pub overflow_add-result : goal.overflow_add-result
overflow_add-result g c =
    let x = operation_net_on c.args.self.now in
    let within = nodes_within x c.args.piece c.requires.piece in
    let some = operations_within x c.args.piece in
    let few = c.args.self.now.own_tables.few in
    omega (arith, within, some, few, c.first.ensures, c.operations.ensures, c.requires.some)
