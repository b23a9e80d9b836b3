use Rattle.std.proofs.Common.{◌≡◌, ℕ, ◌<◌, true, length, get_or}
use Rattle.std.specs.Prelude.{◌↔◌, Some, slice_get}
use Rattle.class_set.specs.declared.ClassSet.{ClassSet}
use Rattle.class_set.specs.ClassSet.{holds}
use Rattle.f77_tree.specs.declared.expressions.Expr.{Expr}
use Rattle.alias_classes.specs.Needs.{ExprNeeds}
use Rattle.redundancy.proofs.avail.needs_of.Given as goal

abbrev pub invariant-loop-e : goal.invariant-loop-e
invariant-loop-e g l = record {
  count : length l.needs.items ≡ l.e-index;
  needs : (k n : ℕ) (e : Expr) (d : ClassSet g.row.W) → k < l.e-index → slice_get l.exprs k ≡ Some e → (holds (get_or l.needs.items k d) n ≡ true) ↔ ExprNeeds l.c e n;
}
