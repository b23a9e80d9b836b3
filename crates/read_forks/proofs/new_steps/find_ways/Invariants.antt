use Rattle.std.proofs.Common.{◌≡◌, length}
use Rattle.op_net.specs.NetView.{net_of}
use Rattle.read_forks.specs.MadeSteps.{AreShut, AreWaysBelow}
use Rattle.read_forks.specs.NodeLinks.{AreSteps}
use Rattle.read_forks.proofs.new_steps.find_ways.Given as goal

abbrev pub invariant-loop-at : goal.invariant-loop-at
invariant-loop-at g l = record {
  steps : AreSteps (net_of l.net) l.steps l.links.items;
  shut : AreShut l.links.items;
  ways : ∥ AreWaysBelow (net_of l.net) l.at l.links.items ∥₁;
  room : length l.links.items ≡ length l.initial.links.items;
}
