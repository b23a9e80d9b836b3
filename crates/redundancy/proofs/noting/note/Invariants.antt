use Rattle.std.proofs.Common.{ℕ, ◌++◌, List, length, map, take}
use Rattle.f77_tree.specs.declared.expressions.Expr.{Expr}
use Rattle.redundancy.specs.Noted.{AreRows, IsNoted, at_node}
use Rattle.redundancy.specs.Numbers.{IsTable}
use Rattle.redundancy.proofs.noting.note.Given as goal

abbrev pub invariant-loop-e : goal.invariant-loop-e
invariant-loop-e l = record {
  table : IsTable l.table.exprs.items l.table.buckets.items;
  rows : AreRows l.nodes (length l.table.exprs.items) l.rows.items;
  noted : (computed : List (ℕ × Expr)) → IsNoted l.nodes computed l.fn.table.exprs.items l.fn.rows.items → IsNoted l.nodes (computed ++ map (at_node l.node) (take l.e-index l.found)) l.table.exprs.items l.rows.items;
}
