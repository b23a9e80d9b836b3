use Rattle.std.proofs.Common.{◌≡◌, ◌++◌, drop}
use Rattle.graph_dependences.specs.Waiting.{decision_ways}
use Rattle.graph_dependences.proofs.all_ways.add_decisions.Given as goal

abbrev pub invariant-loop-node : goal.invariant-loop-node
invariant-loop-node l = record {
  number : l.number ≡ l.node-index;
  ways : l.ways.items ++ decision_ways l.number (drop l.node-index l.nodes) ≡ l.fn.ways.items ++ decision_ways 0 l.nodes;
}
