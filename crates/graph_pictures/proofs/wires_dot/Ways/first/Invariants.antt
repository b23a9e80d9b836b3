use Rattle.std.proofs.Common.{◌≡◌, drop}
use Rattle.graph_pictures.specs.WiresDot.{first_taking}
use Rattle.graph_pictures.proofs.wires_dot.Ways.first.Given as goal

abbrev pub invariant-loop-k : goal.invariant-loop-k
invariant-loop-k l = first_taking l.self.graph.now.nodes.items l.line (drop l.k-index l.k-items) ≡ first_taking l.self.graph.now.nodes.items l.line l.k-items
