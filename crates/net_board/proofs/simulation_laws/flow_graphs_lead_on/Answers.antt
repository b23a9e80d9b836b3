use Rattle.std.proofs.Common.{arith}
use Rattle.closed_walks.specs.Graph.{from}
use Rattle.closed_walks.specs.Region.{IsFlowGraph}
use Rattle.cfg_build.specs.Flow.{flow}
use Rattle.cfg_build.specs.Joined.{finish}
use Rattle.cfg_build.specs.Shape.{IsShaped}
use Rattle.net_board.specs.Nodes.{graph_in}
use Rattle.net_board.proofs.RunEnds.{ends_only}
use Rattle.net_board.proofs.OneWayNodes.{near_end, one_out}
use Rattle.net_board.proofs.simulation_laws.flow_graphs_lead_on.Goals as goal

pub returns : goal.returns
returns c = λ net well.
    let p = net.program in
    let g = graph_in net in
    let strong : IsFlowGraph g = c.flow_graph_is_strong.ensures p.names p.execs p.loops well in
    let shape : IsShaped (flow p.execs) (finish p.execs) = c.flow_graph_has_shape.ensures p.names p.execs p.loops well in
    let graph = strong.sound in
    record {
      shape = shape;
      heads = λ e inside. graph.ends e inside;
      passes_on = λ edge m inside. c.passes_are_a_walk.ensures.each p net.input edge m well inside;
      ends = λ edge m inside is. ends_only net (λ node exists acts. c.pieces_run_executables.ensures.acts p.names p.execs p.loops node well exists acts) edge m (graph.ends edge inside) is;
      one_out = λ e inside one. one_out g e inside (shape.one_leaves (from g e) (graph.begins e inside) one);
      few_pieces = let few = c.pieces_are_few.ensures p.names p.execs p.loops well in omega (arith, few);
      near_end = λ node exists.
          let way = strong.strong node (finish p.execs) exists shape.end_exists in
          near_end g node (finish p.execs) ((c.reaching_is_told.ensures g node (finish p.execs) graph exists).1 way);
    }
