use Rattle.std.proofs.Common.{◌<◌, get_or, sym, subst, arith}
use Rattle.closed_walks.specs.Graph.{Graph, edge_count}
use Rattle.net_tables.proofs.TableLemmas.{edge_exists}
use Rattle.net_tables.proofs.tables.free_lines.Goals as goal

pub to-requires : goal.to-requires
to-requires g c =
    let edge : get_or c.edges_at-e-items.result.now c.loop-e.e-index 0 < edge_count c.args.plan.now.flow.now.graph = edge_exists c.args.plan.now.flow.now.graph c.args.piece c.edges_at-e-items.result.now c.loop-e.e-index c.loop-e.invariant.edges c.loop-e-test.true in
    subst (λ (h : Graph). get_or c.edges_at-e-items.result.now c.loop-e.e-index 0 < edge_count h) (sym c.graph-graph.ensures) edge

pub wires-requires : goal.wires-requires
wires-requires g c =
    let edge : get_or c.edges_at-e-items.result.now c.loop-e.e-index 0 < edge_count c.args.plan.now.flow.now.graph = edge_exists c.args.plan.now.flow.now.graph c.args.piece c.edges_at-e-items.result.now c.loop-e.e-index c.loop-e.invariant.edges c.loop-e-test.true in
    omega (arith, edge, c.args.plan.now.wires)
