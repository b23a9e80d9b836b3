use Rattle.std.proofs.Common.{arith}
use Rattle.operation_tables.specs.BoardView.{operation_net_on}
use Rattle.operation_places.proofs.places.Places.keep_whole.Goals as goal

pub keep_counts-requires : goal.keep_counts-requires
keep_counts-requires g c =
    let x = operation_net_on c.args.board.now in
    (omega arith, (c.lead_all.ensures.places x c.requires.places, c.lead_all.ensures.counted x c.requires.counted))
