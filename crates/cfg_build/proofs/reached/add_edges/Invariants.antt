use Rattle.std.proofs.Common.{◌≡◌, take, map, ◌++◌}
use Rattle.cfg_build.proofs.reached.add_edges.Given as goal

abbrev pub invariant-loop-head : goal.invariant-loop-head
invariant-loop-head l = l.graph ≡ record { nodes = l.initial.graph.nodes; edges = l.initial.graph.edges ++ map (λ head. (l.tail, head)) (take l.head-index l.heads) }
