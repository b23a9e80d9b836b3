use Rattle.std.proofs.Common.{◌≡◌, ◌++◌, map, take}
use Rattle.op_board.specs.OperationNets.{needed}
use Rattle.op_net.specs.NetView.{net_of}
use Rattle.read_forks.specs.MadeSteps.{new_link_of}
use Rattle.read_forks.proofs.new_steps.push_links.Given as goal

abbrev pub invariant-loop-j : goal.invariant-loop-j
invariant-loop-j g l = l.links.items ≡ l.initial.links.items ++ map (new_link_of l.k) (take l.j (needed (net_of l.net) l.piece l.i))
