use Rattle.std.proofs.Common.{◌≡◌, map, take}
use Rattle.fortran_tree.specs.Nodes.{marks}
use Rattle.fortran_tree.proofs.tokens.+copies.Given as goal

abbrev pub invariant-copied-loop-node : goal.invariant-copied-loop-node
invariant-copied-loop-node l = map marks l.copies.items ≡ map marks (take l.node-index l.nodes)
