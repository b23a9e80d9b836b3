use Rattle.std.proofs.Common.{◌≡◌, ◌<◌, ℕ, length, map, take, slice_index}
use Rattle.op_board.specs.OperationLists.{takes_of}
use Rattle.operation_lists.specs.Seen.{operation_seen}
use Rattle.operation_tables.specs.OperationRows.{IsTakerIn}
use Rattle.operation_tables.proofs.takers.value_takers.Given as goal

abbrev pub invariant-loop-i : goal.invariant-loop-i
invariant-loop-i l = record {
  all : length l.takers.items ≡ length l.operations.items;
  takers : (number : ℕ) → 0 < takes_of (map operation_seen (take l.i l.operations.items)) number → IsTakerIn (map operation_seen l.operations.items) number (slice_index l.takers.items number);
}
