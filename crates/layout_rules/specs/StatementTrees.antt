-- Trees of statements that can be laid out. They needn't be those of a text: a statement may have been made of others.
use Rattle.std.specs.Prelude.{◌≡◌, ℕ, ◌≤◌, Bool, true, List, length, All}
use Rattle.std.specs.List.{list_all}
use Rattle.f77_tree.specs.Name.{is_name}
use Rattle.f77_tree.specs.declared.statements.RawExpr.{RawExpr}
use Rattle.f77_tree.specs.declared.statements.Stmt.{Stmt}
use Rattle.f77_tree.specs.declared.statements.Stmt.TheVariants.{Take}
use Rattle.layout_rules.specs.Appearances.{appearing}
use Rattle.layout_rules.specs.Labels.{IsLabel, used}
use Rattle.layout_rules.specs.ReadDeclarations.{IsReadDeclaration}
use Rattle.layout_rules.specs.ReadStatements.{IsReadStatement}
use Rattle.layout_rules.specs.Tables.{has_simple_inner}

-- A statement of which the layout can make declarations and executables: numbers, texts and lists are as the grammar has them,
-- its names are symbolic whichever of them are arrays, and a simple statement stands after the condition of a logical IF.
pub record IsTree (stmt : Stmt) : Type 0 where
  pub declares : IsReadDeclaration stmt
  pub reads : IsReadStatement stmt
  pub labels : All IsLabel (used stmt)
  -- READ has an item
  pub takes : (targets : List RawExpr) → stmt ≡ Take targets → 1 ≤ length targets
  pub names : (arrays : List ℕ → Bool) → list_all is_name (appearing arrays stmt) ≡ true
  pub inner : has_simple_inner stmt ≡ true
