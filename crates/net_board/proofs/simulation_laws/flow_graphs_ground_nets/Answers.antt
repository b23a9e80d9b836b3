use Rattle.closed_walks.specs.Region.{IsFlowGraph}
use Rattle.cfg_build.specs.Flow.{flow}
use Rattle.cfg_build.specs.Joined.{finish}
use Rattle.cfg_build.specs.Shape.{IsShaped}
use Rattle.net_board.specs.Nodes.{graph_in}
use Rattle.net_board.proofs.OneWayNodes.{IsOnOneWay, on_one_way}
use Rattle.net_board.proofs.TouchKinds.{touch_none, touch_some}
use Rattle.net_board.proofs.simulation_laws.flow_graphs_ground_nets.Goals as goal

pub returns : goal.returns
returns c = λ net n.
    let p = net.program in
    let g = graph_in net in
    let t = n.tree in
    let well = n.program.execs in
    let strong : IsFlowGraph g = c.flow_graph_is_strong.ensures p.names p.execs p.loops well in
    let shape : IsShaped (flow p.execs) (finish p.execs) = c.flow_graph_has_shape.ensures p.names p.execs p.loops well in
    record {
      one_place = λ line e f h first second. c.places.ensures.one g t net.touches line e f h strong n.own_tree first second;
      arrives = λ line e inside free. c.places_over_a_pass.ensures.arrives g t net.touches line e strong n.own_tree inside free;
      departs = λ line d f free next. (c.places_over_a_pass.ensures.departs g t net.touches line d f strong n.own_tree free).1 next;
      stays = λ line e d f inside exit meets held at. (c.places_over_a_pass.ensures.stays g t net.touches line e d f strong n.own_tree inside exit meets held).1 at;
      start_free = λ line. c.free_nodes.ensures.start g t net.touches line strong n.own_tree;
      touching = λ node line touches. c.free_nodes.ensures.touching g t net.touches line node touches;
      alone = λ node line exists later one_in one_leaves free.
          let own : IsOnOneWay g node = on_one_way g node strong exists later (shape.one_comes node exists one_in) (shape.one_leaves node exists one_leaves) in
          c.free_passed_nodes.ensures g t net.touches line node own.a own.b strong n.own_tree own.passed later free;
      touch_none = touch_none net n;
      touch_some = λ node exists acts. touch_some net n node
          (c.pieces_touch_lines.ensures.acts p n.classes n.tree net.touches node n.program n.own_classes n.sound_touches exists)
          (c.pieces_touch_lines.ensures.branches p n.classes n.tree net.touches node n.program n.own_classes n.sound_touches exists)
          (c.pieces_touch_lines.ensures.holds p n.classes n.tree net.touches node n.program n.own_classes n.sound_touches exists)
          acts;
      graph = c.flow_graphs_lead_on.ensures net well;
    }
