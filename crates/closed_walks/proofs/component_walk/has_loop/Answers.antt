use Rattle.std.proofs.Common.{arith}
use Rattle.closed_walks.specs.Component.{marked}
use Rattle.closed_walks.proofs.Touching.{edge_exists}
use Rattle.closed_walks.proofs.NodeEdges.{HasNoLoop-begin}
use Rattle.closed_walks.proofs.component_walk.has_loop.Goals as goal

pub loop-e-init : goal.loop-e-init
loop-e-init c = record {
  edges = c.edges_at-e-items.ensures;
  none = rw c.edges_at-e-items.ensures (HasNoLoop-begin c.args.g.now (marked c.args.avoided.now) c.args.node);
}

pub from-requires : goal.from-requires
from-requires c = edge_exists c.args.g.now c.args.node c.edges_at-e-items.result.now c.loop-e.e-index c.loop-e.invariant.edges c.loop-e-test.true

pub to-requires : goal.to-requires
to-requires c = edge_exists c.args.g.now c.args.node c.edges_at-e-items.result.now c.loop-e.e-index c.loop-e.invariant.edges c.loop-e-test.true

pub bounds-avoided-e : goal.bounds-avoided-e
bounds-avoided-e c =
    grind (arith, edge_exists c.args.g.now c.args.node c.edges_at-e-items.result.now c.loop-e.e-index c.loop-e.invariant.edges c.loop-e-test.true)

pub returns-then-not-avoided-e : goal.returns-then-not-avoided-e
returns-then-not-avoided-e c =
    grind (arith, edge_exists c.args.g.now c.args.node c.edges_at-e-items.result.now c.loop-e.e-index c.loop-e.invariant.edges c.loop-e-test.true)
