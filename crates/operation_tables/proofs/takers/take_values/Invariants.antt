use Rattle.std.proofs.Common.{◌≡◌, ℕ, nat_lt, if◌then◌else◌, length, map, take, slice_index}
use Rattle.op_board.specs.OperationLists.{takes_by}
use Rattle.operation_lists.specs.Seen.{operand_seen}
use Rattle.operation_tables.proofs.takers.take_values.Given as goal

abbrev pub invariant-loop-operand : goal.invariant-loop-operand
invariant-loop-operand l = record {
  all : length l.takers.items ≡ length l.fn.takers.items;
  takers : (number : ℕ) → slice_index l.takers.items number ≡ if nat_lt 0 (takes_by (map operand_seen (take l.operand-index l.operands.items)) number) then l.i else slice_index l.fn.takers.items number;
}
