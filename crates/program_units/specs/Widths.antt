-- How many statements and labels stand for a statement, and in the copy of a unit. "Again and again, until no CALL is left" is a
-- depth that falls at each CALL; where no unit calls itself, as many as there are units is deep enough.
use Rattle.std.specs.Prelude.{ℕ, zero, suc, ◌+◌, Bool, true, false, ◌==◌, if◌then◌else◌, List, [], ◌∷◌, sum_by, take, Option, Some, None}
use Rattle.f77_tree.specs.declared.statements.Labelled.{Labelled}
use Rattle.f77_tree.specs.declared.statements.RawExpr.{RawExpr}
use Rattle.f77_tree.specs.declared.statements.Stmt.{Stmt}
use Rattle.f77_tree.specs.declared.statements.Stmt.TheVariants.{End}
use Rattle.layout_rules.specs.Labels.{is_executable}
use Rattle.program_units.specs.Units.{Call, call_in, guard_of, unit_at, unit_of}

-- a statement of this unit that stands in its copies, or, of the main program, in the list
abbrev pub is_kept : (k : ℕ) → Stmt → Bool
is_kept zero s = true
is_kept (suc k) End = false
is_kept (suc k) s = is_executable s

-- ---- statements

-- what stands around a copy: two labels, and after a condition a block of IF
abbrev pub lines_around : Option RawExpr → ℕ
lines_around None = 2
lines_around (Some condition) = 4

abbrev pub width_by : (body : ℕ → ℕ) → List (List Labelled) → Option RawExpr → Option Call → ℕ
width_by body us guard None = 1
width_by body us guard (Some call) = lines_around guard + body (unit_of us call.name)

-- how many statements stand for one, where copies of units have so many
abbrev pub width : (body : ℕ → ℕ) → List (List Labelled) → (k : ℕ) → Labelled → ℕ
width body us k s = if is_kept k s.stmt then width_by body us (guard_of s.stmt) (call_in s.stmt) else 0

-- how many statements a copy has
abbrev pub body_width : List (List Labelled) → (depth k : ℕ) → ℕ
body_width us zero k = 0
body_width us (suc depth) k = sum_by (width (body_width us depth) us k) (unit_at us k)

-- ---- labels

abbrev pub labels_by : (body : ℕ → ℕ) → List (List Labelled) → (label : ℕ) → Option Call → ℕ
labels_by body us label None = if label == 0 then 0 else 1
labels_by body us label (Some call) = 2 + body (unit_of us call.name)

-- how many labels stand for a statement, where copies of units have so many
abbrev pub labels : (body : ℕ → ℕ) → List (List Labelled) → (k : ℕ) → Labelled → ℕ
labels body us k s = if is_kept k s.stmt then labels_by body us s.label (call_in s.stmt) else 0

-- how many labels a copy has
abbrev pub body_labels : List (List Labelled) → (depth k : ℕ) → ℕ
body_labels us zero k = 0
body_labels us (suc depth) k = sum_by (labels (body_labels us depth) us k) (unit_at us k)

-- how many of them stand before the statement at this place of the unit
abbrev pub labels_before : List (List Labelled) → (depth k place : ℕ) → ℕ
labels_before us depth k place = sum_by (labels (body_labels us depth) us k) (take place (unit_at us k))

-- the labels that stand in a list, in order; 0 is no label
abbrev pub labels_written : List Labelled → List ℕ
labels_written [] = []
labels_written (s ∷ rest) = if s.label == 0 then labels_written rest else s.label ∷ labels_written rest
