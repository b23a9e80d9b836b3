use Rattle.std.proofs.Common.{arith}
use Rattle.closed_walks.proofs.Digraphs.{blank-push}
use Rattle.closed_walks.proofs.digraph.no_edges.Goals as goal
use Rattle.std.proofs.lemmas.Grind.{elements}

pub loop-preserved : goal.loop-preserved
loop-preserved c = grind (arith, elements, blank-push)
