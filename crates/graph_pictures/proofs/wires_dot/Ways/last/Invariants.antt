use Rattle.std.proofs.Common.{◌≡◌, drop, None}
use Rattle.graph_pictures.specs.WiresDot.{last_taking}
use Rattle.graph_pictures.proofs.wires_dot.Ways.last.Given as goal

abbrev pub invariant-loop-k : goal.invariant-loop-k
invariant-loop-k l = last_taking l.self.graph.now.nodes.items l.line l.last (drop l.k-index l.k-items) ≡ last_taking l.self.graph.now.nodes.items l.line None l.k-items
