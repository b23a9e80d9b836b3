-- What holds of the rewritten form of a program and of its text.
use Rattle.std.specs.Prelude.{◌≡◌, ℕ, Bool, true, false, List, All}
use Rattle.f77_tree.specs.declared.programs.Program.{Program}
use Rattle.f77_tree.specs.declared.statements.Labelled.{Labelled}
use Rattle.f77_tree.specs.Dialects.{IsOfDialect}
use Rattle.f77_tree.specs.StatementGrammar.{is_of_subroutines}
use Rattle.f77_source.specs.Listed.{is_one_unit}
use Rattle.flat_programs.specs.declared.statements.FlatLine.{FlatLine}
use Rattle.flat_programs.specs.FlatForm.{AreStatementsOf}
use Rattle.read_back.specs.PrintedArrays.{HasNoPrintedArrays}
use Rattle.read_back.specs.ReadAgain.{HasText, IsReadBack}
use Rattle.read_back.specs.SourceStatements.{HasStatements}
use Rattle.rewriting.specs.Rewritten.{IsRewritten, IsRewrittenText}

-- The rewritten form of a program has a text, where no array of the program bears a name with which an intrinsic function is printed.
abbrev pub RewrittenProgramsHaveText : Type 0
RewrittenProgramsHaveText = (p : Program) (checked : Bool) (s : Program) (flat : List FlatLine)
    → HasNoPrintedArrays p.names → IsRewritten p checked s → AreStatementsOf s flat → HasText s flat

-- Where moreover the operators of the program are of the dialect, the text of its rewritten form is read back as that form.
abbrev pub RewrittenTextsAreReadBack : Type 0
RewrittenTextsAreReadBack = (p : Program) (checked : Bool) (text : List ℕ)
    → HasNoPrintedArrays p.names → IsOfDialect checked p → (is : IsRewrittenText p checked text) → IsReadBack text checked is.form

-- the text is one unit, in which nothing is SUBROUTINE, CALL or RETURN
pub record IsTextOfOneUnit (text : List ℕ) : Type 0 where
  pub stmts : List Labelled
  pub has : HasStatements text stmts
  pub unit : is_one_unit stmts ≡ true
  pub plain : All (λ s. is_of_subroutines s.stmt ≡ false) stmts

-- The text of the rewritten form of a program is one unit without subroutines, whatever arrays the program has.
abbrev pub RewrittenTextsAreOneUnit : Type 0
RewrittenTextsAreOneUnit = (p : Program) (checked : Bool) (text : List ℕ) → IsRewrittenText p checked text → IsTextOfOneUnit text
