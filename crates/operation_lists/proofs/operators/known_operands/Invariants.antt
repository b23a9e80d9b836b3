use Rattle.std.proofs.Common.{◌≡◌, ◌≤◌, length, map, take}
use Rattle.op_board.specs.Operations.{known_of}
use Rattle.operation_lists.specs.Seen.{operand_seen}
use Rattle.operation_lists.proofs.operators.known_operands.Given as goal

abbrev pub invariant-loop-operand : goal.invariant-loop-operand
invariant-loop-operand l = record {
  counted : l.count ≡ l.operand-index;
  few : length l.operands ≤ 3;
  room : length l.known ≡ 3;
  values : take l.count l.known ≡ map known_of (map operand_seen (take l.operand-index l.operands));
}
