use Rattle.std.proofs.Common.{ℕ, List, length}
use Rattle.f77_tree.specs.declared.expressions.Expr.{Expr}
use Rattle.redundancy.specs.Noted.{AreRows, IsNoted}
use Rattle.redundancy.specs.Numbers.{IsTable}
use Rattle.redundancy.proofs.Notes.{IsGathered}
use Rattle.redundancy.proofs.noting.candidates_of.Given as goal

abbrev pub invariant-loop-node : goal.invariant-loop-node
invariant-loop-node l = record {
  table : IsTable l.table.exprs.items l.table.buckets.items;
  rows : AreRows (length l.f.pieces) (length l.table.exprs.items) l.rows.items;
  computed : List (ℕ × Expr);
  gathered : IsGathered l.p.names l.p.execs l.f.pieces l.node computed;
  noted : IsNoted (length l.f.pieces) computed l.table.exprs.items l.rows.items;
}
