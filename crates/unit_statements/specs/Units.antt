-- Statements by their lines, and the units in which they stand (ANSI X3.9-1978, sections 2.4 and 3.5).
use Rattle.std.specs.Prelude.{ℕ, Bool, true, false, ◌+◌, ◌==◌, if◌then◌else◌, List, [], ◌∷◌, bytes_eq, take, drop}
use Rattle.std.specs.List.{find, list_any, position_or_len}
use Rattle.std.specs.Option.{unwrap_or}
use Rattle.f77_tree.specs.declared.statements.Labelled.{Labelled}
use Rattle.f77_tree.specs.declared.statements.Stmt.{Stmt, more_of-Stmt}
use Rattle.f77_tree.specs.declared.statements.Stmt.TheVariants.{Sub, End, ThenIf'}

-- the statement that begins at a line
abbrev pub begins_at : (line : ℕ) → Labelled → Bool
begins_at line s = s.line == line

-- the statement behind the condition of a logical IF, or itself
abbrev pub inner : Stmt → Stmt
inner (ThenIf' condition shape (more_of-Stmt stmt rest)) = stmt
inner stmt = stmt

abbrev pub is_end : Stmt → Bool
is_end End = true
is_end _ = false

-- how many statements stand before the first END
abbrev pub before_end : List Labelled → ℕ
before_end stmts = position_or_len (λ s. is_end s.stmt) stmts

-- the statements up to and with the first END, and those after it
abbrev pub first_unit : List Labelled → List Labelled
first_unit stmts = take (before_end stmts + 1) stmts

abbrev pub after_unit : List Labelled → List Labelled
after_unit stmts = drop (before_end stmts + 1) stmts

abbrev pub in_first : Labelled → List (List Labelled) → List (List Labelled)
in_first s [] = (s ∷ []) ∷ []
in_first s (u ∷ us) = (s ∷ u) ∷ us

-- each unit up to and with its END; what stands after the last END is a unit too
abbrev pub units : List Labelled → List (List Labelled)
units [] = []
units (s ∷ rest) = if is_end s.stmt then (s ∷ []) ∷ units rest else in_first s (units rest)

-- the first unit that passes a test, or no statements
abbrev pub unit_where : (List Labelled → Bool) → List Labelled → List Labelled
unit_where test stmts = unwrap_or (find test (units stmts)) []

-- the unit in which a statement begins at a line
abbrev pub unit_with : (line : ℕ) → List Labelled → List Labelled
unit_with line stmts = unit_where (list_any (begins_at line)) stmts

abbrev pub is_sub_named : (name : List ℕ) → Stmt → Bool
is_sub_named name (Sub found dummies) = bytes_eq found name
is_sub_named name _ = false

abbrev pub begins_with_sub : (name : List ℕ) → List Labelled → Bool
begins_with_sub name [] = false
begins_with_sub name (s ∷ rest) = is_sub_named name s.stmt

-- the unit of the subroutine of a name
abbrev pub unit_named : (name : List ℕ) → List Labelled → List Labelled
unit_named name stmts = unit_where (begins_with_sub name) stmts

abbrev pub dummies_of_stmt : Stmt → List (List ℕ)
dummies_of_stmt (Sub name dummies) = dummies
dummies_of_stmt _ = []

-- the dummies of a unit, of which the main program has none
abbrev pub dummies : List Labelled → List (List ℕ)
dummies [] = []
dummies (s ∷ rest) = dummies_of_stmt s.stmt

-- the line of the first statement, or 0
abbrev pub first_line : List Labelled → ℕ
first_line [] = 0
first_line (s ∷ rest) = s.line
