use Rattle.operation_tables.specs.GraphView.{operations_of}
use Rattle.printed_laws.specs.ShortNet.{HaveShortOperandsBelow}
use Rattle.printed_laws.proofs.nets.nets_are_short.Given as goal

abbrev pub invariant-loop-k : goal.invariant-loop-k
invariant-loop-k g l = HaveShortOperandsBelow (operations_of l.net) l.k
