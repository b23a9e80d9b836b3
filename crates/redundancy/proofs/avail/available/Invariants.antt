use Rattle.redundancy.proofs.Solutions.{AreSolved}
use Rattle.redundancy.proofs.avail.available.Given as goal

abbrev pub invariant-loop-k : goal.invariant-loop-k
invariant-loop-k g l = AreSolved l.p l.f l.c l.table.exprs.items l.f.graph.nodes l.k l.initial.rows.items l.rows.items
