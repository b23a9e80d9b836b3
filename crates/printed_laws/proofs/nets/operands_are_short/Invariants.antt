use Rattle.std.proofs.Common.{All, take}
use Rattle.op_board.specs.OperationNets.{operation_at, operation_node}
use Rattle.operation_tables.specs.GraphView.{operations_of}
use Rattle.operation_tables.specs.Telling.{number_of, piece_of}
use Rattle.printed_laws.specs.ShortNet.{IsShortOperand}
use Rattle.printed_laws.proofs.nets.operands_are_short.Given as goal

abbrev pub invariant-loop-i : goal.invariant-loop-i
invariant-loop-i g l =
    let x = operations_of l.net in
    let name = operation_node x l.fn.k in
    All (IsShortOperand x (piece_of name)) (take l.i (operation_at x (piece_of name) (number_of name)).operands)
