-- Statements of subroutines after a condition.
use Rattle.std.proofs.Common.{◌≡◌, refl}
use Rattle.f77_tree.specs.declared.statements.RawExpr.{RawExpr}
use Rattle.f77_tree.specs.declared.statements.Stmt.{Stmt}
use Rattle.f77_tree.specs.declared.statements.Stmt.TheVariants.{ThenIf}
use Rattle.f77_tree.specs.StatementGrammar.{is_of_subroutines}

-- a condition makes no difference
pub guarded_subroutines : (condition : RawExpr) (stmt : Stmt) → is_of_subroutines (ThenIf condition stmt) ≡ is_of_subroutines stmt
unfolding Rattle.f77_tree.specs.declared.statements.Stmt.TheBlock.hidden-the_row-Stmt-0 denote.Hole.Carrier.hidden
guarded_subroutines condition stmt = refl
