use Rattle.std.proofs.Common.{◌≡◌, ◌≤◌, take, vec_capacity}
use Rattle.operation_effects.specs.OperandValues.{operand_values}
use Rattle.op_net.proofs.piece_performing.read_operands.Given as goal

abbrev pub invariant-loop-operand : goal.invariant-loop-operand
invariant-loop-operand l = record {
  items : l.args.items ≡ operand_values l.values (take l.operand-index l.operands.items);
  room : vec_capacity l.fn.args ≤ vec_capacity l.args;
}
