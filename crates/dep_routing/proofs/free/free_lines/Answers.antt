use Rattle.std.proofs.Common.{◌<◌, get_or, rules}
use Rattle.closed_walks.specs.Graph.{edge_count}
use Rattle.dep_routing.proofs.FreeNodes.{edge_exists}
use Rattle.dep_routing.proofs.free.free_lines.Goals as goal

pub to-requires : goal.to-requires
to-requires g c = edge_exists c.edges_of_nodes.ensures.touch c.args.g.now c.args.node c.edges_at-e-items.result.now c.loop-e.e-index c.loop-e.invariant.edges c.loop-e-test.true

pub wires-requires : goal.wires-requires
wires-requires g c =
    let edge : get_or c.edges_at-e-items.result.now c.loop-e.e-index 0 < edge_count c.args.g.now = edge_exists c.edges_of_nodes.ensures.touch c.args.g.now c.args.node c.edges_at-e-items.result.now c.loop-e.e-index c.loop-e.invariant.edges c.loop-e-test.true in
    let inside : get_or c.edges_at-e-items.result.now c.loop-e.e-index 0 < c.args.l.now.edges = rw c.requires.edges edge in
    search (rules, inside)
