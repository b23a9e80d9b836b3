-- Where labels lead in the executables of a program.
use Rattle.std.specs.Prelude.{◌≡◌, ℕ, true, List, Some, slice_get}
use Rattle.f77_tree.specs.declared.programs.Exec.{Exec}
use Rattle.f77_tree.specs.declared.statements.Labelled.{Labelled}
use Rattle.layout_rules.specs.Executables.{first_of}
use Rattle.layout_rules.specs.Labels.{bears}

-- one statement alone has the label, control may go there, and this is its first executable
pub record IsLedTo (stmts : List Labelled) (execs : List Exec) (label target : ℕ) : Type 0 where
  pub place : ℕ
  pub statement : Labelled
  pub stands : slice_get stmts place ≡ Some statement
  pub bears_it : bears label statement ≡ true
  pub alone : (j : ℕ) (other : Labelled) → slice_get stmts j ≡ Some other → other.label ≡ label → j ≡ place
  pub first : target ≡ first_of stmts place
  pub exec : Exec
  pub is : slice_get execs target ≡ Some exec
  pub line : exec.line ≡ statement.line
