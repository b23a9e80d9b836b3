use Rattle.std.proofs.Common.{◌≡◌, ℕ, ◌<◌, ap, get_or, arith}
use Rattle.closed_walks.specs.Graph.{Graph, from, to}
use Rattle.cfg_build.proofs.rows.digraph.Goals as goal

begins_below : (g : Graph) (e : ℕ) → from g e < g.nodes → (get_or g.edges e (0, 0)).0 < g.nodes
unfolding from
begins_below g e below = below

ends_below : (g : Graph) (e : ℕ) → to g e < g.nodes → (get_or g.edges e (0, 0)).1 < g.nodes
unfolding to
ends_below g e below = below

pub add_edge-requires-clause-begins : goal.add_edge-requires-clause-begins
add_edge-requires-clause-begins c =
    let g : Graph = record { nodes = c.args.nodes; edges = c.args.edges.now } in
    let e = c.loop-edge.edge-index in
    let nodes : c.loop-edge.graph.nodes ≡ c.args.nodes = ap (λ (h : Graph). h.nodes) c.loop-edge.invariant in
    let below : (get_or c.args.edges.now e (0, 0)).0 < c.args.nodes = begins_below g e (c.requires.sound.begins e c.loop-edge-test.true) in
    omega (arith, nodes, below)

pub add_edge-requires-clause-ends : goal.add_edge-requires-clause-ends
add_edge-requires-clause-ends c =
    let g : Graph = record { nodes = c.args.nodes; edges = c.args.edges.now } in
    let e = c.loop-edge.edge-index in
    let nodes : c.loop-edge.graph.nodes ≡ c.args.nodes = ap (λ (h : Graph). h.nodes) c.loop-edge.invariant in
    let below : (get_or c.args.edges.now e (0, 0)).1 < c.args.nodes = ends_below g e (c.requires.sound.ends e c.loop-edge-test.true) in
    omega (arith, nodes, below)
