use Rattle.std.proofs.Common.{◌≡◌, ◌≤◌, ◌+◌, length, map, drop, All}
use Rattle.std.specs.Prelude.{sum_by}
use Rattle.f77_tree.specs.Operations.{item_operations}
use Rattle.f77_tree.specs.CanRun.{CanPrint}
use Rattle.op_board.specs.Operations.{items_compiled}
use Rattle.operation_lists.specs.CanPerform.{CanPerform}
use Rattle.operation_lists.specs.Seen.{operation_seen, row_seen}
use Rattle.operation_lists.proofs.ItemLists.{items_after}
use Rattle.operation_lists.proofs.executables.compile_items.Given as goal

abbrev pub invariant-loop-item : goal.invariant-loop-item
invariant-loop-item l = record {
  items : All (CanPrint l.p.names) l.item-items;
  can : All (CanPerform l.p) l.done.items;
  compiled : items_after l.p.names (row_seen l.done.items l.operands.items) (drop l.item-index l.item-items) ≡ items_compiled l.p.names (map operation_seen l.fn.done.items) l.item-items;
  within : l.item-index ≤ length l.item-items;
  few : length l.done.items + l.item-index + sum_by item_operations (drop l.item-index l.item-items) ≤ length l.fn.done.items + sum_by item_operations l.item-items;
  short : length l.operands.items ≤ l.item-index;
}
