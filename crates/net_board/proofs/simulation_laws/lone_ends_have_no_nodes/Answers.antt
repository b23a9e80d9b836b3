use Rattle.closed_walks.specs.Region.{IsFlowGraph}
use Rattle.net_board.specs.Nodes.{graph_in}
use Rattle.net_board.proofs.LoneEnds.{lone_end}
use Rattle.net_board.proofs.simulation_laws.lone_ends_have_no_nodes.Goals as goal

pub returns : goal.returns
returns c = λ net n node lone.
    let p = net.program in
    let g = graph_in net in
    let strong : IsFlowGraph g = c.flow_graph_is_strong.ensures p.names p.execs p.loops n.program.execs in
    lone_end net n (c.flow_graphs_ground_nets.ensures net n) strong node lone.exists lone.is_end lone.one
    (λ line a b passed later free. c.free_passed_nodes.ensures g n.tree net.touches line node a b strong n.own_tree passed later free)
