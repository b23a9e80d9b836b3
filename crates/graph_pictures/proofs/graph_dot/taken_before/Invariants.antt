use Rattle.std.proofs.Common.{◌≡◌}
use Rattle.graph_pictures.specs.GraphDot.{taken_before}
use Rattle.graph_pictures.proofs.graph_dot.taken_before.Given as goal

abbrev pub invariant-loop-k : goal.invariant-loop-k
invariant-loop-k l = taken_before l.nodes l.piece l.line l.place ≡ taken_before l.nodes l.piece l.line l.number

abbrev pub decreases-loop-k : goal.decreases-loop-k
decreases-loop-k l = l.place
