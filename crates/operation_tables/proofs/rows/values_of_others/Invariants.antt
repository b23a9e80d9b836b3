use Rattle.std.proofs.Common.{◌≡◌, ◌≤◌, ℕ, length, map, take}
use Rattle.op_board.specs.OperationNets.{OperationNet}
use Rattle.op_board.specs.OperationTokens.{givers}
use Rattle.operation_lists.specs.Seen.{operand_seen}
use Rattle.operation_tables.proofs.rows.values_of_others.Given as goal

abbrev pub invariant-loop-operand : goal.invariant-loop-operand
invariant-loop-operand l = record {
  count : (x : OperationNet) (piece : ℕ) → l.count ≡ length (givers x piece (map operand_seen (take l.operand-index l.operands)));
  few : l.count ≤ l.operand-index;
}
