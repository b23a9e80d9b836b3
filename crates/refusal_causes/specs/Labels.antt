-- What is told of labels is so.
use Rattle.std.specs.Prelude.{◌≡◌, ◌==◌, ◌&&◌, nat_lt, ℕ, Bool, true, false, List}
use Rattle.std.specs.List.{list_any}
use Rattle.f77_tree.specs.declared.statements.Labelled.{Labelled}
use Rattle.f77_tree.specs.declared.statements.Stmt.{Stmt}
use Rattle.f77_tree.specs.declared.statements.Stmt.TheVariants.{Program, Implicit, ImplicitNone, TypeOf, Dimension, Common, Equivalence, Init, ElseIf, Else, Sub}
use Rattle.refusal_causes.specs.declared.label_cause.LabelCause.{LabelCause}
use Rattle.refusal_causes.specs.declared.label_cause.LabelCause.TheVariants.{LabelTwice, NoLabel}

-- a label on a statement can be named: it is executable, and neither ELSE nor ELSE IF
abbrev pub can_be_named : Stmt → Bool
can_be_named Program = false
can_be_named (Implicit ranges) = false
can_be_named ImplicitNone = false
can_be_named (TypeOf kind decls) = false
can_be_named (Dimension decls) = false
can_be_named (Common parts) = false
can_be_named (Equivalence groups) = false
can_be_named (Init parts) = false
can_be_named (Sub name dummies) = false
can_be_named Else = false
can_be_named (ElseIf condition) = false
can_be_named _ = true

-- a statement of the unit that can be named has the label
abbrev pub has_label : List Labelled → (label : ℕ) → Bool
has_label unit label = list_any (λ s. s.label == label && can_be_named s.stmt) unit

-- what is told of a label in a unit, at a line
abbrev pub IsOfLabels : List Labelled → (line : ℕ) → LabelCause → Type 0
IsOfLabels unit line (LabelTwice label above) = list_any (λ s. nat_lt s.line line && s.label == label && s.line == above) unit ≡ true
IsOfLabels unit line (NoLabel label) = has_label unit label ≡ false
