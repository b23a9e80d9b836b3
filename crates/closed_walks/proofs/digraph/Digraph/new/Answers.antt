use Rattle.std.proofs.Common.{arith, refl}
use Rattle.closed_walks.proofs.Digraphs.{Keeps-new}
use Rattle.closed_walks.proofs.digraph.Digraph.new.Goals as goal

pub invariant_of-result : goal.invariant_of-result
invariant_of-result c = Keeps-new _ c.new.result.items c.in_ok-no_edges.field-0.items (omega (arith, c.in_ok-no_edges.ensures.0)) c.new.ensures.items refl c.in_ok-no_edges.ensures.1
