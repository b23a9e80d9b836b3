use Rattle.std.proofs.Common.{◌≡◌, ◌++◌, take}
use Rattle.op_board.specs.OperationNets.{operation_at}
use Rattle.op_net.specs.NetView.{net_of}
use Rattle.read_forks.specs.MadeSteps.{load_givers}
use Rattle.read_forks.proofs.new_steps.push_givers.Given as goal

abbrev pub invariant-loop-j : goal.invariant-loop-j
invariant-loop-j g l = l.givers.items ≡ l.initial.givers.items ++ load_givers (net_of l.net) l.piece (take l.j (operation_at (net_of l.net) l.piece l.i).operands)
