-- Whole expressions with known values.
use Rattle.std.proofs.Common.{◌≡◌, ℕ, ℤ, Bool, List, Option, Some}
use Rattle.op_table.specs.declared.Op.{Op}
use Rattle.f77_tree.specs.declared.expressions.Expr.{Expr}
use Rattle.f77_tree.specs.declared.expressions.Expr.TheVariants.{Apply}
use Rattle.f77_tree.specs.declared.programs.NameInfo.{NameInfo}
use Rattle.f77_tree.specs.KnownWith.{known_with}
use Rattle.f77_tree.specs.Line.{kind_of_expression}
use Rattle.simplified_forms.specs.Folding.{folded}
use Rattle.simplified_forms.specs.Literals.{literal}
use Rattle.simplified_forms.proofs.FoldedLists.{operator-known}

pub whole_known : (names : List NameInfo) (checked : Bool) (words : ℕ → Option ℤ) (e tree : Expr) (op : Op) (args : List Expr) (z : ℤ) → e ≡ Apply op args → known_with names words e ≡ Some z → tree ≡ literal checked (kind_of_expression names e) z → tree ≡ folded names checked words e
whole_known names checked words e tree op args z is known tree_is = operator-known names checked words e tree op args z is known tree_is
