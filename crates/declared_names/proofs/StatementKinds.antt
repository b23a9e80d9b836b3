-- Kinds of statements after a condition.
use Rattle.std.proofs.Common.{◌≡◌, ◌&&◌, List, refl}
use Rattle.f77_tree.specs.declared.declarations.Kind.TheVariants.{Logical}
use Rattle.f77_tree.specs.declared.programs.NameInfo.{NameInfo}
use Rattle.f77_tree.specs.declared.statements.RawExpr.{RawExpr}
use Rattle.f77_tree.specs.declared.statements.Stmt.{Stmt}
use Rattle.f77_tree.specs.declared.statements.Stmt.TheVariants.{ThenIf}
use Rattle.layout_rules.specs.Types.{is_well_kinded, is_of_kind}

pub guarded_kinds : (names : List NameInfo) (condition : RawExpr) (stmt : Stmt) → is_well_kinded names (ThenIf condition stmt) ≡ (is_of_kind names Logical condition && is_well_kinded names stmt)
unfolding Rattle.f77_tree.specs.declared.statements.Stmt.TheBlock.hidden-the_row-Stmt-0 denote.Hole.Carrier.hidden
guarded_kinds names condition stmt = refl
