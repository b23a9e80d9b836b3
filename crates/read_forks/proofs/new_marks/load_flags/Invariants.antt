use Rattle.op_net.specs.NetView.{net_of}
use Rattle.read_forks.proofs.LoadFlags.{AreFlagsBelow}
use Rattle.read_forks.proofs.new_marks.load_flags.Given as goal

abbrev pub invariant-loop-k : goal.invariant-loop-k
invariant-loop-k g l = AreFlagsBelow (net_of l.net) l.k l.flags.items
