use Rattle.std.proofs.Common.{arith}
use Rattle.operation_tables.specs.BoardView.{operation_net_on}
use Rattle.operation_tables.proofs.LookedUp.{entry_exists, entry_is}
use Rattle.operation_tables.proofs.NodeNames.{acts_where}
use Rattle.operation_places.proofs.RisingLines.{found, not_missed}
use Rattle.operation_places.proofs.standing.entry.Goals as goal

pub index-requires : goal.index-requires
index-requires g c = let count = c.args.board.now.own_tables.rows.pieces in omega (arith, count, c.requires.piece)

pub index-requires-in-Ok : goal.index-requires-in-Ok
index-requires-in-Ok g c =
    let board = c.args.board.now in
    let x = operation_net_on board in
    let at = found x.net c.args.piece c.args.line c.touched-touched.result.now c.in-Ok.place c.touched-touched.ensures.lines c.in-Ok.ensures.position in
    let low = entry_exists board c.args.piece c.args.line c.in-Ok.place c.index.result.now c.requires.piece c.index.ensures (acts_where x c.args.piece 0 c.requires.some) at in
    omega (arith, low)

pub returns-in-Ok : goal.returns-in-Ok
returns-in-Ok g c =
    let board = c.args.board.now in
    let x = operation_net_on board in
    let at = found x.net c.args.piece c.args.line c.touched-touched.result.now c.in-Ok.place c.touched-touched.ensures.lines c.in-Ok.ensures.position in
    entry_is board c.args.piece c.args.line c.in-Ok.place c.index.result.now c.requires.piece c.index.ensures (acts_where x c.args.piece 0 c.requires.some) at c.index-in-Ok.result.now c.index-in-Ok.ensures

pub returns-in-Err : goal.returns-in-Err
returns-in-Err g c =
    let x = operation_net_on c.args.board.now in
    not_missed x.net c.args.piece c.args.line c.touched-touched.result.now c.in-Err.field-0 c.touched-touched.ensures.lines c.in-Err.ensures.position c.requires.line c.requires.touched
