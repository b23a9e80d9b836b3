use Rattle.std.proofs.Common.{◌<◌, ◌≤◌, ◌^◌, List, All, length, subst, arith}
use Rattle.std.proofs.lemmas.List.{take_all}
use Rattle.op_board.specs.Operations.{Operand}
use Rattle.op_board.specs.OperationNets.{operation_at, operation_node}
use Rattle.operation_tables.specs.GraphView.{operations_of}
use Rattle.operation_tables.specs.Telling.{number_of, piece_of}
use Rattle.printed_laws.specs.ShortNet.{IsShortOperand}
use Rattle.printed_laws.proofs.ShortOperands.{one_more_operand}
use Rattle.printed_laws.proofs.nets.operands_are_short.Goals as goal

pub loop-i-preserved : goal.loop-i-preserved
loop-i-preserved g c =
    let x = operations_of c.args.net.now in
    let name = operation_node x c.args.k in
    let operands = (operation_at x (piece_of name) (number_of name)).operands in
    let inside : c.loop-i.i < length operands = omega (arith, c.loop-i-test.true, c.operands-count.ensures) in
    one_more_operand x (piece_of name) operands c.loop-i.i c.operand.result inside c.operand.ensures c.operand_is_short.ensures c.loop-i.invariant

pub returns : goal.returns
returns g c =
    let x = operations_of c.args.net.now in
    let name = operation_node x c.args.k in
    let operands = (operation_at x (piece_of name) (number_of name)).operands in
    let end : length operands ≤ c.loop-i.i = omega (arith, c.loop-i-test.false, c.operands-count.ensures) in
    record {
      few = subst (λ n. n < 2 ^ 32) c.operands-count.ensures c.stays_short.ensures;
      each = subst (λ (os : List Operand). All (IsShortOperand x (piece_of name)) os) (take_all c.loop-i.i operands end) c.loop-i.invariant;
    }
