-- Flat statements as they are written.
use Rattle.std.specs.Prelude.{pos, Bool, true, false, ◌==◌, if◌then◌else◌, List, [], ◌∷◌, map, Option, Some, None, decimal}
use Rattle.std.specs.Ordering.{int_eq}
use Rattle.f77_tree.specs.declared.expressions.Expr.{Expr}
use Rattle.f77_tree.specs.declared.expressions.Expr.TheVariants.{Const, Read}
use Rattle.f77_tree.specs.declared.programs.Item.{Item}
use Rattle.f77_tree.specs.declared.programs.Item.TheVariants.{Value, Chars}
use Rattle.f77_tree.specs.declared.programs.NameInfo.{NameInfo}
use Rattle.f77_tree.specs.Execution.{words_taken}
use Rattle.f77_tree.specs.Grammar.{Written}
use Rattle.f77_tree.specs.StatementGrammar.{WrittenItem, Expression, Characters, WrittenStatement, Print_star, Read_star}
use Rattle.f77_expr.specs.Printing.{name_at, printed}
use Rattle.flat_programs.specs.declared.statements.Flat.{Flat}
use Rattle.flat_programs.specs.declared.statements.Flat.TheVariants.{Mark, Assignment, Output, LogicalIf, ArithmeticIf, ComputedGoTo, DoLoop, Jump, Finish}

abbrev pub written : List NameInfo → Expr → Written
written names e = (printed names e).alone

abbrev pub written_item : List NameInfo → Item → WrittenItem
written_item names (Value e) = Expression (written names e)
written_item names (Chars text) = Characters text

abbrev pub is_one : Expr → Bool
is_one (Const z) = int_eq z (pos 1)
is_one _ = false

-- a step of 1 isn't written
abbrev pub written_step : List NameInfo → Expr → Option Written
written_step names step = if is_one step then None else Some (written names step)

-- a statement over a table of names; a value that takes data is read
abbrev pub shown : List NameInfo → Flat → WrittenStatement
shown names Mark = WrittenStatement.continue
shown names (Assignment target value) = if words_taken value == 1 then WrittenStatement.read Read_star (written names (Read target) ∷ []) else WrittenStatement.assignment (written names (Read target)) (written names value)
shown names (Output items) = WrittenStatement.print Print_star (map (written_item names) items)
shown names (LogicalIf cond target) = WrittenStatement.logical_if (written names cond) (WrittenStatement.go_to (decimal target))
shown names (ArithmeticIf value below at above) = WrittenStatement.arithmetic_if (written names value) (decimal below) (decimal at) (decimal above)
shown names (ComputedGoTo value targets) = WrittenStatement.computed_go_to (map decimal targets) true (written names value)
shown names (DoLoop end var first last step) = WrittenStatement.do_loop (decimal end) false (name_at names var) (written names first) (written names last) (written_step names step)
shown names (Jump target) = WrittenStatement.go_to (decimal target)
shown names Finish = WrittenStatement.end
