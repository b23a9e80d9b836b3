-- What is told of statements that stand where they can't, and of declarations that contradict each other.
use Rattle.std.specs.Prelude.{ℕ, Bool, not, ◌==◌, ◌&&◌, if◌then◌else◌, List, codes, Option, Some, None}
use Rattle.std.specs.List.{find}
use Rattle.f77_tree.specs.declared.statements.Labelled.{Labelled}
use Rattle.f77_tree.specs.declared.statements.Stmt.{Stmt}
use Rattle.f77_tree.specs.declared.statements.Stmt.TheVariants.{Program, Implicit, ImplicitNone, TypeOf, Dimension, Common, Equivalence, Init, ElseIf, Else, EndIf, Sub, Back, End}
use Rattle.unit_statements.specs.Units.{begins_at, first_line, inner, unit_with}

-- ---- what is wrong

abbrev pub subroutine_first : List ℕ
subroutine_first = codes "a SUBROUTINE stands before the main program, or inside a unit"

abbrev pub after_end : List ℕ
after_end = codes "a statement stands behind END, and is no SUBROUTINE"

abbrev pub return_in_main : List ℕ
return_in_main = codes "RETURN stands in the main program"

abbrev pub late_program : List ℕ
late_program = codes "PROGRAM isn't the first statement"

abbrev pub late_implicit : List ℕ
late_implicit = codes "IMPLICIT stands behind another declaration or a statement"

abbrev pub late_declaration : List ℕ
late_declaration = codes "a declaration stands behind DATA or an executable statement"

abbrev pub late_statement : List ℕ
late_statement = codes "a statement stands in a place where none of its kind may"

abbrev pub dimensions : List ℕ
dimensions = codes "an array has bounds twice, an upper bound below its lower one, or more than 262,144 elements"

abbrev pub common_twice : List ℕ
common_twice = codes "a name stands in COMMON twice, or its bounds are wrong"

abbrev pub links : List ℕ
links = codes "an EQUIVALENCE can't be met"

abbrev pub initial_values : List ℕ
initial_values = codes "a DATA statement can't be met"

abbrev pub no_if : List ℕ
no_if = codes "no IF with THEN that is open here takes this ELSE, ELSE IF or END IF"

abbrev pub open_at_end : List ℕ
open_at_end = codes "a DO or an IF is open at END"

abbrev pub loop_end : List ℕ
loop_end = codes "a DO ends at a statement that can't end it, or while something that began later is open"

-- ---- order

-- of a statement that isn't the first of a unit behind another
abbrev pub advice_inside : Stmt → List ℕ
advice_inside Back = return_in_main
advice_inside Program = late_program
advice_inside (Implicit ranges) = late_implicit
advice_inside ImplicitNone = late_implicit
advice_inside (TypeOf kind decls) = late_declaration
advice_inside (Dimension decls) = late_declaration
advice_inside (Common parts) = late_declaration
advice_inside (Equivalence groups) = late_declaration
advice_inside _ = late_statement

abbrev pub advice_by_place : (follows : Bool) → Stmt → List ℕ
advice_by_place follows (Sub name dummies) = subroutine_first
advice_by_place follows stmt = if follows then after_end else advice_inside stmt

-- the statement of a line is the first of a unit that isn't the main program
abbrev pub follows_end : List Labelled → (line : ℕ) → Bool
follows_end stmts line = first_line (unit_with line stmts) == line && not (first_line stmts == line)

abbrev pub advice_on_order_of : List Labelled → (line : ℕ) → Option Labelled → List ℕ
advice_on_order_of stmts line None = late_statement
advice_on_order_of stmts line (Some s) = advice_by_place (follows_end stmts line) (inner s.stmt)

abbrev pub advice_on_order : List Labelled → (line : ℕ) → List ℕ
advice_on_order stmts line = advice_on_order_of stmts line (find (begins_at line) stmts)

-- ---- storage

abbrev pub advice_on_storage : Stmt → List ℕ
advice_on_storage (Common parts) = common_twice
advice_on_storage (Equivalence groups) = links
advice_on_storage (Init parts) = initial_values
advice_on_storage _ = dimensions

abbrev pub advice_on_storage_of : Option Labelled → List ℕ
advice_on_storage_of None = dimensions
advice_on_storage_of (Some s) = advice_on_storage s.stmt

abbrev pub advice_on_layout : List Labelled → (line : ℕ) → List ℕ
advice_on_layout stmts line = advice_on_storage_of (find (begins_at line) stmts)

-- ---- nesting

-- of a statement without a label
abbrev pub advice_on_block : Stmt → List ℕ
advice_on_block Else = no_if
advice_on_block (ElseIf condition) = no_if
advice_on_block EndIf = no_if
advice_on_block End = open_at_end
advice_on_block _ = loop_end

abbrev pub advice_on_nesting_of : Option Labelled → List ℕ
advice_on_nesting_of None = loop_end
advice_on_nesting_of (Some s) = if s.label == 0 then advice_on_block s.stmt else loop_end

abbrev pub advice_on_nesting : List Labelled → (line : ℕ) → List ℕ
advice_on_nesting stmts line = advice_on_nesting_of (find (begins_at line) stmts)
