use Rattle.op_net.specs.NetView.{net_of}
use Rattle.read_forks.specs.MadeSteps.{AreTablesBelow}
use Rattle.read_forks.proofs.new_steps.new_tables.Given as goal

abbrev pub invariant-loop-k : goal.invariant-loop-k
invariant-loop-k g l = AreTablesBelow (net_of l.net) l.k l.tables.steps l.tables.links.items l.tables.givers.items
