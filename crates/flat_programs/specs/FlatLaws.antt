-- Laws on flat statements and their executables, as statements.
use Rattle.std.specs.Prelude.{List, ℕ, Some, slice_get, ◌≡◌, ◌+◌}
use Rattle.f77_tree.specs.declared.programs.NameInfo.{NameInfo}
use Rattle.flat_programs.specs.declared.statements.FlatLine.{FlatLine}
use Rattle.flat_programs.specs.Marks.{loop_count}
use Rattle.flat_programs.specs.Executables.{executables, program_of, first_of, leading, following, width}
use Rattle.f77_tree.specs.WellFormed.{AreExecs, IsWellFormed}
use Rattle.flat_programs.specs.FlatForm.{AreProper, HasFewStatements, IsFlat}
use Rattle.f77_tree.specs.declared.programs.Program.{Program}
use Rattle.f77_tree.specs.declared.programs.ExecKind.{ExecKind}

-- the executables of proper flat statements are those of a program
abbrev pub FlatStatementsMakeExecutables : Type 0
FlatStatementsMakeExecutables = (names : List NameInfo) (flat : List FlatLine)
    → IsFlat flat → AreProper names flat → HasFewStatements flat → AreExecs names (executables flat) (loop_count flat)

-- with the declarations of a well-formed program they make one
abbrev pub FlatStatementsMakePrograms : Type 0
FlatStatementsMakePrograms = (q : Program) (flat : List FlatLine)
    → IsWellFormed q → IsFlat flat → AreProper q.names flat → HasFewStatements flat → IsWellFormed (program_of q flat)

-- the first executable of a statement stands after those of all statements before it
abbrev pub FirstExecutablesStand : Type 0
FirstExecutablesStand = (flat : List FlatLine) (place : ℕ) (l : FlatLine)
    → slice_get flat place ≡ Some l
    → slice_get (executables flat) (first_of flat place) ≡ Some (record { line = l.line; kind = leading flat place l.stmt })

-- the other one stands right after the first
abbrev pub OtherExecutablesFollow : Type 0
OtherExecutablesFollow = (flat : List FlatLine) (place : ℕ) (l : FlatLine) (kind : ExecKind)
    → slice_get flat place ≡ Some l → following flat place l.stmt ≡ Some kind
    → slice_get (executables flat) (first_of flat place + 1) ≡ Some (record { line = l.line; kind = kind })

-- the next statement begins after those of this one
abbrev pub NextExecutablesFollow : Type 0
NextExecutablesFollow = (flat : List FlatLine) (place : ℕ) (l : FlatLine)
    → slice_get flat place ≡ Some l → first_of flat (place + 1) ≡ first_of flat place + width flat place l.stmt
