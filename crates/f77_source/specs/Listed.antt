-- The statements of the one program that a text comes to (ANSI X3.9-1978, sections 2.4 and 15.6).
use Rattle.std.specs.Prelude.{◌-◌, Bool, not, ◌&&◌, if◌then◌else◌, List, length, take, Result, Ok}
use Rattle.std.specs.List.{list_all}
use Rattle.f77_tree.specs.declared.statements.Labelled.{Labelled}
use Rattle.f77_tree.specs.declared.statements.Stmt.{Stmt}
use Rattle.f77_tree.specs.StatementGrammar.{is_of_subroutines}
use Rattle.program_units.specs.declared.sub_end.SubEnd.{SubEnd}
use Rattle.program_units.specs.Refusals.{expansion}
use Rattle.program_units.specs.Units.{is_end}

-- neither END nor a statement of subroutines
abbrev pub stays_in_unit : Stmt → Bool
stays_in_unit stmt = not (is_end stmt) && not (is_of_subroutines stmt)

-- statements that END ends are one unit without subroutines where none before it is END or one of subroutines
abbrev pub is_one_unit : List Labelled → Bool
is_one_unit stmts = list_all (λ s. stays_in_unit s.stmt) (take (length stmts - 1) stmts)

-- The statements of one unit stand as they are, labels and all. Those of several come to their expansion.
abbrev pub listed : List Labelled → (checked : Bool) → Result (List Labelled) SubEnd
listed stmts checked = if is_one_unit stmts then Ok stmts else expansion stmts checked
