use Rattle.std.proofs.Common.{◌<◌, ◌^◌, arith}
use Rattle.operation_tables.specs.BoardView.{operation_net_on}
use Rattle.operation_places.proofs.WaitBounds.{waits_few}
use Rattle.operation_places.proofs.waiting.waits_are_few.Goals as goal

pub returns : goal.returns
returns g c m k below =
    let board = c.args.board.now in
    let lines : (operation_net_on board).net.routing.lines < 2 ^ 32 = omega (arith, c.lines-lines.ensures, c.lines-lines.type_inv) in
    waits_few (operation_net_on board) m board.plan.facts board.own_tables.few lines k below
