use Rattle.op_board.proofs.OperationLaws.{operations_begin}
use Rattle.op_board.proofs.operation_laws.operation_nets_begin_soundly.Goals as goal

pub returns : goal.returns
returns c = operations_begin c.nets_begin_soundly.ensures
