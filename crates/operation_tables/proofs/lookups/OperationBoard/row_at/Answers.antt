use Rattle.std.proofs.Common.{◌≡◌, ◌∙◌, List, Option, option_copied, slice_get, subst, sym, ap}
use Rattle.op_board.specs.OperationNets.{operation_node}
use Rattle.operation_tables.specs.BoardView.{operation_net_on}
use Rattle.operation_tables.specs.OperationTables.{RowOfNode}
use Rattle.operation_tables.specs.declared.rows.Row.{Row}
use Rattle.operation_tables.proofs.LookedUp.{item_copied, row_of_node}
use Rattle.operation_tables.proofs.lookups.OperationBoard.row_at.Goals as goal

pub returns : goal.returns
returns g c =
    let board = c.args.self.now in
    let n = c.index.result.now in
    let read : option_copied c.get.result ≡ slice_get board.tables.rows.items n = item_copied c.deref.result.now n c.get.result c.get.ensures.lookup.3 ∙ ap (λ (rows : List Row). slice_get rows n) c.deref.ensures.value in
    subst (λ (o : Option Row). RowOfNode (operation_net_on board) (operation_node (operation_net_on board) c.args.k) o) (sym read) (row_of_node board c.args.k n c.requires c.index.ensures)
