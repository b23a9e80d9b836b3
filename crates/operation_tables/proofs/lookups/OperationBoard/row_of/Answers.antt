use Rattle.std.proofs.Common.{Option, length, refl, subst, arith}
use Rattle.std.proofs.lemmas.Option.{slice_get_read}
use Rattle.op_board.specs.OperationNets.{operation_node}
use Rattle.operation_tables.specs.BoardView.{operation_net_on}
use Rattle.operation_tables.specs.OperationTables.{RowOfNode}
use Rattle.operation_tables.specs.declared.rows.Row.{Row}
use Rattle.operation_tables.proofs.LookedUp.{record_low, row_of_node}
use Rattle.operation_tables.proofs.lookups.OperationBoard.row_of.Goals as goal

pub index-requires-2 : goal.index-requires-2
index-requires-2 g c =
    let low = record_low c.args.self.now c.args.k c.index.result.now c.requires.node c.requires.operation c.index.ensures in
    omega (arith, low)

pub returns : goal.returns
returns g c =
    let board = c.args.self.now in
    let rows = board.tables.rows.items in
    let n = c.index.result.now in
    let low = record_low board c.args.k n c.requires.node c.requires.operation c.index.ensures in
    subst (λ (o : Option Row). RowOfNode (operation_net_on board) (operation_node (operation_net_on board) c.args.k) o) (slice_get_read rows (length rows) n c.index-2.result.now refl low c.index-2.ensures) (row_of_node board c.args.k n c.requires.node c.index.ensures)
