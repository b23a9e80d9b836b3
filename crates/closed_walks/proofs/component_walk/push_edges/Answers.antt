use Rattle.std.proofs.Common.{arith}
use Rattle.closed_walks.specs.Component.{marked}
use Rattle.closed_walks.proofs.Touching.{edge_exists}
use Rattle.closed_walks.proofs.NodeEdges.{IsAdding-begin, IsAdding-add, IsAdding-skip, IsAdding-end}
use Rattle.closed_walks.proofs.component_walk.push_edges.Goals as goal
use Rattle.closed_walks.proofs.component_walk.push_edges.Goals.{then-from-node+then-not-avoided-e+in_ok-push, else-from-node, else-from-node-via-then-from-node+else-not-avoided-e, else-from-node-via-else-from-node}

pub loop-e-init : goal.loop-e-init
loop-e-init c = record {
  edges = c.edges_at-e-items.ensures;
  adding = rw c.edges_at-e-items.ensures (IsAdding-begin c.args.g.now (marked c.args.avoided.now) c.args.node c.args.pending.now.items);
}

pub from-requires : goal.from-requires
from-requires c = edge_exists c.args.g.now c.args.node c.edges_at-e-items.result.now c.loop-e.e-index c.loop-e.invariant.edges c.loop-e-test.true

pub bounds-avoided-e : goal.bounds-avoided-e
bounds-avoided-e c =
    grind (arith, edge_exists c.args.g.now c.args.node c.edges_at-e-items.result.now c.loop-e.e-index c.loop-e.invariant.edges c.loop-e-test.true)

pub loop-e-preserved : goal.loop-e-preserved
loop-e-preserved c =
    search (edge_exists, then-from-node+then-not-avoided-e+in_ok-push, IsAdding-add, else-from-node, IsAdding-skip, else-from-node-via-then-from-node+else-not-avoided-e, else-from-node-via-else-from-node, arith)

pub returns : goal.returns
returns c =
    grind (arith, IsAdding-end c.args.g.now (marked c.args.avoided.now) c.args.node c.edges_at-e-items.result.now c.loop-e.e-index c.args.pending.now.items c.loop-e.pending.items c.loop-e.invariant.edges c.loop-e-test.false c.loop-e.auto.e-index-end c.loop-e.invariant.adding)
