use Rattle.std.proofs.Common.{arith}
use Rattle.operation_tables.specs.BoardView.{operation_net_on}
use Rattle.operation_tables.proofs.OperationRanges.{nodes_within}
use Rattle.operation_places.proofs.control_moves.stays.Goals as goal

pub overflow_add-visit : goal.overflow_add-visit
overflow_add-visit g c =
    let within = nodes_within (operation_net_on c.args.board.now) c.args.visit.control.piece c.requires.visit.placed.piece in
    omega (arith, within, c.args.board.now.own_tables.few, c.requires.due)
