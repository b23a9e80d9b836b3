use Rattle.std.proofs.Common.{◌≡◌, map, take}
use Rattle.printed_graphs.specs.Nodes.{piece_of}
use Rattle.graph_pictures.proofs.wires_dot.Ways.of.Given as goal

abbrev pub invariant-loop-node : goal.invariant-loop-node
invariant-loop-node l = l.pieces.items ≡ map piece_of (take l.node-index l.node-items)
