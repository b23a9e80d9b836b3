use Rattle.std.proofs.Common.{◌≡◌, drop}
use Rattle.graph_dependences.specs.Ways.{first_stop}
use Rattle.graph_dependences.proofs.ways.first_stop.Given as goal

abbrev pub invariant-loop-node : goal.invariant-loop-node
invariant-loop-node l = record {
  number : l.number ≡ l.node-index;
  rest : first_stop l.line l.piece l.number (drop l.node-index l.nodes) ≡ first_stop l.line l.piece 0 l.nodes;
}
