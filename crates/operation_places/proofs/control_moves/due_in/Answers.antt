use Rattle.std.proofs.Common.{arith}
use Rattle.operation_tables.specs.BoardView.{operation_net_on}
use Rattle.operation_places.proofs.ControlMoveLemmas.{due_none, due_some}
use Rattle.operation_tables.proofs.OperationRanges.{nodes_within}
use Rattle.operation_places.proofs.control_moves.due_in.Goals as goal

pub overflow_add-result : goal.overflow_add-result
overflow_add-result g c =
    let v = c.args.visit in
    let within = nodes_within (operation_net_on c.args.board.now) v.control.piece c.requires.visit.placed.piece in
    let first = c.requires.visit.first in
    let count = c.requires.visit.count in
    omega (arith, within, first, count, c.args.board.now.own_tables.few, c.if-visit.true)

pub returns-then-visit : goal.returns-then-visit
returns-then-visit g c = due_some (operation_net_on c.args.board.now) c.args.visit c.requires.visit c.if-visit.true

pub returns-else-visit : goal.returns-else-visit
returns-else-visit g c = due_none (operation_net_on c.args.board.now) c.args.visit c.requires.visit c.if-visit.false
