use Rattle.std.proofs.Common.{arith}
use Rattle.closed_walks.proofs.Digraphs.{Keeps-with}
use Rattle.closed_walks.proofs.digraph.Digraph.add_edge.Goals as goal

pub invariant_of-self-in_default : goal.invariant_of-self-in_default
invariant_of-self-in_default c = grind (arith, Keeps-with)
