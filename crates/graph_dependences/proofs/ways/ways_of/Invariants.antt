use Rattle.std.proofs.Common.{◌≡◌, ◌++◌, drop}
use Rattle.graph_dependences.specs.Ways.{ways_on}
use Rattle.graph_dependences.proofs.ways.ways_of.Given as goal

abbrev pub invariant-loop-node : goal.invariant-loop-node
invariant-loop-node l = record {
  number : l.number ≡ l.node-index;
  told : l.ways.items ++ ways_on l.graph l.flow l.line l.number (drop l.node-index l.nodes) ≡ ways_on l.graph l.flow l.line 0 l.nodes;
}
