use Rattle.std.proofs.Common.{◌≡◌, ◌+◌, ◌++◌, drop}
use Rattle.graph_dependences.specs.Waiting.{switch_ways}
use Rattle.graph_dependences.proofs.all_ways.add_switches.Given as goal

abbrev pub invariant-loop-node : goal.invariant-loop-node
invariant-loop-node l = record {
  number : l.number ≡ l.first + l.node-index;
  ways : l.ways.items ++ switch_ways l.from l.piece l.number (drop l.node-index l.nodes) ≡ l.fn.ways.items ++ switch_ways l.from l.piece l.first l.nodes;
}
