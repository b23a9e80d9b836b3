-- The statements of a text, of one unit or of several, in the order of the text.
use Rattle.std.specs.Prelude.{◌≡◌, ℕ, ◌<◌, ◌≤◌, List, length, All, Some, slice_get}
use Rattle.f77_tree.specs.declared.statements.Labelled.{Labelled}
use Rattle.f77_tree.specs.StatementGrammar.{IsGiven}
use Rattle.layout_rules.specs.Source.{EndsWithEnd}

-- Statements that were read from a text. Their lines rise, and there are at most 4,000, with END at the end.
pub record IsText (stmts : List Labelled) : Type 0 where
  pub given : All (λ s. IsGiven s.stmt) stmts
  pub labels : All (λ s. s.label ≤ 99999) stmts
  pub rising : (j k : ℕ) (a b : Labelled) → slice_get stmts j ≡ Some a → slice_get stmts k ≡ Some b → j < k → a.line < b.line
  pub few : length stmts ≤ 4000
  pub ended : EndsWithEnd stmts
