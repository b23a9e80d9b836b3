-- Runs of what the text of a rewritten form is read as.
use Rattle.std.specs.Prelude.{ℕ, ℤ, Bool, List, All}
use Rattle.op_table.specs.Words.{IsWord}
use Rattle.f77_tree.specs.declared.programs.Program.{Program}
use Rattle.f77_tree.specs.Dialects.{IsOfDialect}
use Rattle.f77_tree.specs.Run.{PrintAlike, source}
use Rattle.f77_tree.specs.WellFormed.{IsWellFormed}
use Rattle.f77_source.specs.Reading.{Reads}
use Rattle.rewriting.specs.Rewritten.{IsRewrittenText}
use Rattle.read_back.specs.PrintedArrays.{HasNoPrintedArrays}

-- What the text of the rewritten form of a program is read as prints what the program prints, over data of words: it writes the same, ends
-- where the program ends, and traps where the program traps, in the same way.
abbrev pub RewrittenTextsPrintAlike : Type 0
RewrittenTextsPrintAlike = (p : Program) (checked : Bool) (text : List ℕ) (again : Program) (input : List ℤ)
    → IsWellFormed p → HasNoPrintedArrays p.names → IsOfDialect checked p → IsRewrittenText p checked text
    → Reads text checked again → All IsWord input → PrintAlike (source p input) (source again input)
