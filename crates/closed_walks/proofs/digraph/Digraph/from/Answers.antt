use Rattle.closed_walks.proofs.Digraphs.{from-read}
use Rattle.closed_walks.proofs.digraph.Digraph.from.Goals as goal
use Rattle.std.proofs.Common.{arith}

pub returns-clause-node : goal.returns-clause-node
returns-clause-node c = grind (arith, from-read c.args.self.now c.args.e)

pub returns-clause-exists : goal.returns-clause-exists
returns-clause-exists c = grind (arith, returns-clause-node c)
