use Rattle.std.proofs.Common.{◌-◌, arith}
use Rattle.redundancy.proofs.Rounds.{AreNodes-push}
use Rattle.redundancy.proofs.solve.all_nodes.Goals as goal

pub loop-node-preserved : goal.loop-node-preserved
loop-node-preserved c =
    rw c.in_ok-push.ensures.items (AreNodes-push c.nodes-node-end.result c.loop-node.node (c.nodes-in-loop-node.result - 1 - c.loop-node.node) c.loop-node.nodes.items (omega (arith, c.nodes-in-loop-node.ensures.count, c.nodes-node-end.ensures.count)) c.loop-node-test.true c.loop-node.invariant)
