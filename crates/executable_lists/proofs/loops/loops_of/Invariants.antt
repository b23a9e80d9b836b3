use Rattle.executable_lists.specs.Listed.{listed}
use Rattle.layout_rules.specs.Tables.{IsTable, AreLoops, rank}
use Rattle.executable_lists.proofs.loops.loops_of.Given as goal

abbrev pub invariant-loop-place : goal.invariant-loop-place
invariant-loop-place l = record {
  by_label : AreLoops l.stmts l.place (listed l.by_label);
  ranks : IsTable (rank l.stmts) l.place l.ranks.items;
}
