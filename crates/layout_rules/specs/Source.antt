-- The statements of a source, in the order of the text.
use Rattle.std.specs.Prelude.{◌≡◌, ◌-◌, ◌≤◌, false, List, length, All, Some, slice_get}
use Rattle.f77_tree.specs.declared.statements.Labelled.{Labelled}
use Rattle.f77_tree.specs.declared.statements.Stmt.TheVariants.{End}
use Rattle.f77_tree.specs.StatementGrammar.{is_of_subroutines}
use Rattle.layout_rules.specs.StatementTrees.{IsTree}

-- the last statement is END
pub record EndsWithEnd (stmts : List Labelled) : Type 0 where
  pub last : Labelled
  pub stands : slice_get stmts (length stmts - 1) ≡ Some last
  pub is : last.stmt ≡ End

-- Statements that can be laid out: each is a tree as those that are read from a text, and no statement of subroutines. There are
-- at most 4,000, with END at the end. A label is a number of up to five digits, or 0.
pub record IsSource (stmts : List Labelled) : Type 0 where
  pub trees : All (λ s. IsTree s.stmt) stmts
  pub no_subroutines : All (λ s. is_of_subroutines s.stmt ≡ false) stmts
  pub labels : All (λ s. s.label ≤ 99999) stmts
  pub few : length stmts ≤ 4000
  pub ended : EndsWithEnd stmts
