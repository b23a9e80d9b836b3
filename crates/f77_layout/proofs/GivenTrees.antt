-- Statements that are read from a text are trees that can be laid out.
use Rattle.std.proofs.Common.{◌≡◌, false, ◌∙◌}
use Rattle.f77_tree.specs.declared.statements.Stmt.{Stmt}
use Rattle.f77_tree.specs.StatementGrammar.{IsGiven, is_of_subroutines}
use Rattle.layout_rules.specs.StatementTrees.{IsTree}
use Rattle.storage_laws.proofs.DeclaredForms.{given-IsReadDeclaration}
use Rattle.f77_layout.proofs.LabelsLead.{taken_some}
use Rattle.form_laws.proofs.ProperStatements.{given-IsReadStatement}
use Rattle.storage_laws.proofs.SymbolicNames.{given_symbolic}
use Rattle.control_structure.proofs.Usable.{inner_given, used-given}

pub given-IsTree : (stmt : Stmt) → IsGiven stmt → is_of_subroutines stmt ≡ false → IsTree stmt
given-IsTree stmt given none = record {
  declares = given-IsReadDeclaration stmt given;
  reads = given-IsReadStatement stmt given;
  labels = used-given stmt given;
  takes = λ targets e. taken_some given.is_read.written given.is_read.spells.grammatical targets (given.is_read.is ∙ e);
  names = λ arrays. given_symbolic arrays stmt given;
  inner = inner_given stmt given none;
}
