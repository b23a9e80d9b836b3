use Rattle.std.proofs.Common.{◌≡◌, ◌+◌, drop}
use Rattle.graph_dependences.specs.Ways.{next_stop}
use Rattle.graph_dependences.proofs.ways.next_stop.Given as goal

abbrev pub invariant-loop-node : goal.invariant-loop-node
invariant-loop-node l = record {
  number : l.number ≡ l.first + l.node-index;
  rest : next_stop l.line l.piece l.number (drop l.node-index l.nodes) ≡ next_stop l.line l.piece l.first l.nodes;
}
