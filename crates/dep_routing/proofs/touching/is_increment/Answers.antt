use Rattle.dep_routing.proofs.PieceTouches.{as-many, act-runs}
use Rattle.dep_routing.proofs.touching.is_increment.Goals as goal

pub piece-piece-requires : goal.piece-piece-requires
piece-piece-requires c = as-many c.args.p.now c.args.f.now c.args.node c.requires.flow c.requires.node (c.flow_graph_has_shape.ensures c.args.p.now.names c.args.p.now.execs c.args.p.now.loops c.requires.program.execs)

pub at-requires : goal.at-requires
at-requires c =
    let p = c.args.p.now in
    act-runs p c.args.f.now c.args.node c.piece-piece.result c.requires.flow c.piece-piece.ensures c.requires.node (λ lt. c.pieces_run_executables.ensures.acts p.names p.execs p.loops c.args.node c.requires.program.execs lt) c.in-Act.is
