use Rattle.op_board.proofs.OperationLaws.{operations_lawful}
use Rattle.op_board.proofs.operation_laws.operation_nets_keep_the_laws.Goals as goal

pub returns : goal.returns
returns c = operations_lawful
