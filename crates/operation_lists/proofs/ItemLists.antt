-- The operations of items of output, one after another.
use Rattle.std.proofs.Common.{List}
use Rattle.f77_tree.specs.declared.programs.Item.{Item}
use Rattle.f77_tree.specs.declared.programs.NameInfo.{NameInfo}
use Rattle.op_board.specs.Operations.{CompiledRow, items_compiled}
use Rattle.operation_lists.specs.OperandLists.{row_after}

module _ (names : List NameInfo) where
  -- after a row, the operations and operands of more items
  abbrev pub items_after : CompiledRow → List Item → CompiledRow
  items_after row items = row_after row.operands (items_compiled names row.done items)
