-- Trees of statements: their expressions, their texts and their lists.
use Rattle.std.specs.Prelude.{◌≡◌, ◌<◌, Bool, true, false, length, All, Option, Some, None}
use Rattle.f77_tree.specs.declared.statements.RawExpr.{RawExpr}
use Rattle.f77_tree.specs.declared.statements.RawItem.{RawItem}
use Rattle.f77_tree.specs.declared.statements.RawItem.TheVariants.{Value, Chars}
use Rattle.f77_tree.specs.declared.statements.Stmt.{Stmt, more_of-Stmt}
use Rattle.f77_tree.specs.declared.statements.Stmt.TheVariants.{Assign, Print, Take, PickGoTo, SignIf, ThenIf', BlockIf, ElseIf, Do}
use Rattle.f77_tree.specs.WellFormed.{IsText}
use Rattle.layout_rules.specs.ReadExpressions.{IsReading}

abbrev pub IsReadItem : RawItem → Type 0
IsReadItem (Value e) = IsReading e
IsReadItem (Chars text) = IsText text

abbrev pub IsReadStep : Option RawExpr → Type 0
IsReadStep None = Unit {0}
IsReadStep (Some e) = IsReading e

-- a logical IF
abbrev pub is_guarded : Stmt → Bool
is_guarded (ThenIf' condition shape row) = true
is_guarded _ = false

-- the parts of a statement: a logical IF has no other after its condition
abbrev pub IsReadStatement : Stmt → Type 0
IsReadStatement (Assign target value) = IsReading target × IsReading value
IsReadStatement (Print items) = All IsReadItem items
IsReadStatement (Take targets) = All IsReading targets
IsReadStatement (PickGoTo labels index) = (0 < length labels) × IsReading index
IsReadStatement (SignIf value negative zero positive) = IsReading value
IsReadStatement (ThenIf' condition shape (more_of-Stmt stmt rest)) = IsReading condition × IsReadStatement stmt × (is_guarded stmt ≡ false)
IsReadStatement (BlockIf condition) = IsReading condition
IsReadStatement (ElseIf condition) = IsReading condition
IsReadStatement (Do label variable first last step) = IsReading first × IsReading last × IsReadStep step × (0 < label)
IsReadStatement _ = Unit {0}
