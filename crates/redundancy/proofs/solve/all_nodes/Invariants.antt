use Rattle.redundancy.proofs.Rounds.{AreNodes}
use Rattle.redundancy.proofs.solve.all_nodes.Given as goal

abbrev pub invariant-loop-node : goal.invariant-loop-node
invariant-loop-node l = AreNodes l.node-end l.node l.nodes.items
