use Rattle.dep_routing.proofs.Noises.{IsAdding, lacking}
use Rattle.dep_routing.proofs.noise.add_up.Given as goal

abbrev pub invariant-loop-r : goal.invariant-loop-r
invariant-loop-r g l = IsAdding l.t l.region l.r l.lines l.fn.sets.items l.sets.items

abbrev pub decreases-loop-r : goal.decreases-loop-r
decreases-loop-r g l = lacking l.sets.items
