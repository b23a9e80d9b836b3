use Rattle.std.proofs.Common.{drop}
use Rattle.region_tree.proofs.NextEdges.{IsLinked}
use Rattle.region_tree.proofs.next_edges.next_edges.Given as goal

abbrev pub invariant-loop-k : goal.invariant-loop-k
invariant-loop-k l = IsLinked l.classes (drop l.k l.edges) l.first.items l.next.items
