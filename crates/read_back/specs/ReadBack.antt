-- Laws on what is read from printed text, as statements.
use Rattle.std.specs.Prelude.{◌≡◌, List, Some, Bool, ◌≤◌, length, flat_map, Ok, true, All}
use Rattle.f77_tree.specs.declared.programs.NameInfo.{NameInfo}
use Rattle.read_back.specs.PrintedArrays.{HasNoPrintedArrays}
use Rattle.f77_tree.specs.declared.expressions.Expr.{Expr}
use Rattle.f77_tree.specs.Declarations.{NamesDiffer}
use Rattle.f77_tree.specs.Kinds.{IsProper}
use Rattle.f77_tree.specs.Line.{kind_of_expression}
use Rattle.f77_expr.specs.Printing.{raw_form}
use Rattle.layout_rules.specs.Types.{kind_in}
use Rattle.f77_tree.specs.Dialects.{HasDialect}
use Rattle.layout_rules.specs.Resolved.{resolved}
use Rattle.flat_programs.specs.Lines.{Typeset, lines_of}
use Rattle.fixed_form.specs.Reading.{reading}
use Rattle.fixed_form.specs.Statement.{ends_with_end}
use Rattle.read_back.specs.ReadLines.{CanStand, read_from}

-- the form that a printed expression is read as has the kind of the expression
abbrev pub PrintedExpressionsKeepTheirKind : Type 0
PrintedExpressionsKeepTheirKind = (names : List NameInfo) (e : Expr)
    → NamesDiffer names → HasNoPrintedArrays names → IsProper names e → kind_in names (raw_form names e) ≡ Some (kind_of_expression names e)

-- in the dialect of its operators it is taken for the expression itself
abbrev pub PrintedExpressionsAreThemselves : Type 0
PrintedExpressionsAreThemselves = (names : List NameInfo) (checked : Bool) (e : Expr)
    → NamesDiffer names → HasNoPrintedArrays names → IsProper names e → HasDialect checked e → resolved names checked (raw_form names e) ≡ e

-- statements on their lines are read as one statement each
abbrev pub PrintedLinesAreRead : Type 0
PrintedLinesAreRead = (ts : List Typeset)
    → length ts ≤ 4000 → All CanStand ts → ends_with_end (read_from 1 ts) ≡ true → reading (flat_map lines_of ts) ≡ Ok (read_from 1 ts)
