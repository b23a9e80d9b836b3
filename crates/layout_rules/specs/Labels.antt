-- Labels: where they stand, and where they are used (ANSI X3.9-1978, sections 3.4 and 11).
use Rattle.std.specs.Prelude.{◌≡◌, ℕ, ◌<◌, Bool, true, false, not, ◌&&◌, ◌==◌, List, [], ◌∷◌}
use Rattle.std.specs.List.{list_any, position_or_len}
use Rattle.f77_tree.specs.declared.statements.Labelled.{Labelled}
use Rattle.f77_tree.specs.declared.statements.Stmt.{Stmt, more_of-Stmt}
use Rattle.f77_tree.specs.declared.statements.Stmt.TheVariants.{Program, Implicit, ImplicitNone, TypeOf, Dimension, Common, Equivalence, Init, GoTo, PickGoTo, SignIf, ThenIf', ElseIf, Else, Do, Sub}

-- a label stands on an earlier statement too
abbrev pub is_labelled_twice : (above : List Labelled) → Labelled → Bool
is_labelled_twice above s = not (s.label == 0) && list_any (λ a. a.label == s.label) above

-- the labels to which a statement may jump
abbrev pub jumps : Stmt → List ℕ
jumps (GoTo label) = label ∷ []
jumps (PickGoTo labels index) = labels
jumps (SignIf value negative zero positive) = negative ∷ zero ∷ positive ∷ []
jumps (ThenIf' condition shape (more_of-Stmt stmt rest)) = jumps stmt
jumps _ = []

-- the labels that a statement uses: those of its jumps, and that of the end of a DO
abbrev pub used : Stmt → List ℕ
used (Do label variable first last step) = label ∷ []
used stmt = jumps stmt

-- a statement that does something when the program runs; declarations don't
abbrev pub is_executable : Stmt → Bool
is_executable Program = false
is_executable (Implicit ranges) = false
is_executable ImplicitNone = false
is_executable (TypeOf kind decls) = false
is_executable (Dimension decls) = false
is_executable (Common parts) = false
is_executable (Equivalence groups) = false
is_executable (Init parts) = false
is_executable (Sub name dummies) = false
is_executable _ = true

-- a label that is used may not stand on ELSE IF and ELSE
abbrev pub is_arm : Stmt → Bool
is_arm (ElseIf condition) = true
is_arm Else = true
is_arm _ = false

abbrev pub bears : ℕ → Labelled → Bool
bears label s = (s.label == label) && is_executable s.stmt && not (is_arm s.stmt)

-- a label is used that no statement bears
abbrev pub lacks_label : (whole above : List Labelled) → Labelled → Bool
lacks_label whole above s = list_any (λ label. not (list_any (bears label) whole)) (used s.stmt)

-- the place of the statement with this label
abbrev pub statement_of : List Labelled → ℕ → ℕ
statement_of stmts label = position_or_len (λ s. s.label == label) stmts

-- a number that may stand in a GO TO, an arithmetic IF or a DO
abbrev pub IsLabel : ℕ → Type 0
IsLabel label = (label ≡ 0 → ⊥) × (label < 100000)

-- a label that stands on a statement to which control may go
abbrev pub IsBorne : List Labelled → ℕ → Type 0
IsBorne stmts label = IsLabel label × (list_any (bears label) stmts ≡ true)
