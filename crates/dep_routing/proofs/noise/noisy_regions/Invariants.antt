use Rattle.dep_routing.specs.Touch.{touches_in}
use Rattle.dep_routing.proofs.Noises.{AreHeard}
use Rattle.dep_routing.proofs.noise.noisy_regions.Given as goal

abbrev pub invariant-loop-node : goal.invariant-loop-node
invariant-loop-node g l = AreHeard l.g l.t (touches_in l.touch) l.node l.sets.items
