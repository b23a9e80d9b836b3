use Rattle.std.proofs.Common.{◌≡◌, take}
use Rattle.cfg_build.proofs.rows.digraph.Given as goal

abbrev pub invariant-loop-edge : goal.invariant-loop-edge
invariant-loop-edge l = l.graph ≡ record { nodes = l.nodes; edges = take l.edge-index l.edges }
