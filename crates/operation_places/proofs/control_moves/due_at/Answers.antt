use Rattle.std.proofs.Common.{arith}
use Rattle.operation_tables.specs.BoardView.{operation_net_on}
use Rattle.operation_tables.proofs.OperationRanges.{nodes_within}
use Rattle.operation_places.proofs.control_moves.due_at.Goals as goal

pub overflow_add-result : goal.overflow_add-result
overflow_add-result g c =
    let within = nodes_within (operation_net_on c.args.board.now) c.args.c.piece c.requires.placed.piece in
    omega (arith, within, c.args.board.now.own_tables.few, c.count.ensures, c.if-c-count.true, c.first.ensures)
