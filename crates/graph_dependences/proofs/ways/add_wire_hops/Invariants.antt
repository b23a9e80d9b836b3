use Rattle.std.proofs.Common.{◌≡◌, ◌++◌, drop}
use Rattle.graph_dependences.specs.Ways.{wire_hops}
use Rattle.graph_dependences.proofs.ways.add_wire_hops.Given as goal

abbrev pub invariant-loop-edge : goal.invariant-loop-edge
invariant-loop-edge l = l.ways.items ++ wire_hops l.graph l.flow l.line l.from l.piece (drop l.edge-index l.edges) ≡ l.fn.ways.items ++ wire_hops l.graph l.flow l.line l.from l.piece l.edges
