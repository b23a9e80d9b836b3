-- Where the executables of a unit stand in the program of the list, in one of its copies.
use Rattle.std.specs.Prelude.{◌≡◌, ℕ, ◌+◌, ◌-◌, ◌<◌, ◌==◌, ◌⊎◌, if◌then◌else◌, Bool, true, false, List, length, Option, Some, None, slice_get}
use Rattle.f77_tree.specs.declared.statements.Labelled.{Labelled}
use Rattle.f77_tree.specs.declared.statements.RawExpr.{RawExpr}
use Rattle.f77_tree.specs.declared.statements.Stmt.{Stmt}
use Rattle.f77_tree.specs.declared.statements.Stmt.TheVariants.{Continue, Stop, Back}
use Rattle.layout_rules.specs.Executables.{first_of, is_do, is_do_to, labelled, loop_number, loops_to, own_executables}
use Rattle.program_units.specs.Units.{Call, call_in, guard_of, inner, is_end, stand_in, unit_at, unit_of}
use Rattle.program_units.specs.Widths.{body_labels, is_kept}
use Rattle.program_units.specs.Contexts.{IsReached}
use Rattle.program_units.specs.Copies.{Context, bare, changed_stmt, changes, number_at}
use Rattle.program_units.specs.ListedCopies.{called_context, copied_place, lines_before, piece_at}

-- STOP and RETURN
abbrev pub leaves : Stmt → Bool
leaves Stop = true
leaves Back = true
leaves _ = false

-- ---- DOs and their increments

-- the numbers of a DO of the unit and of its copy
pub record AreCopiedLoops (us : List (List Labelled)) (list : List Labelled) (c : Context) (at : ℕ → ℕ) (i j : ℕ) : Type 0 where
  pub place : ℕ
  pub s : Labelled
  pub is : slice_get (unit_at us c.unit) place ≡ Some s
  pub does : is_do s.stmt ≡ true
  pub own : i ≡ loop_number (unit_at us c.unit) place
  pub there : j ≡ loop_number list (at place)

-- the place of the last statement that stands for one
abbrev pub last_place : List (List Labelled) → Context → (at : ℕ → ℕ) → (place : ℕ) → Labelled → ℕ
last_place us c at place s = at place + length (piece_at us c place s) - 1

-- how many executables that one has of its own: the label behind the copy of a CALL is on a CONTINUE
abbrev pub own_of_last : (own : ℕ) → Option Call → ℕ
own_of_last own None = own
own_of_last own (Some call) = 1

-- the first increment of the DOs that end there
abbrev pub first_increment : List (List Labelled) → List Labelled → Context → (at : ℕ → ℕ) → (place : ℕ) → Labelled → ℕ
first_increment us list c at place s = first_of list (last_place us c at place s) + own_of_last (own_executables s.stmt) (call_in s.stmt)

-- ---- the relation

-- What a unit does at a position, the list does next at r. A position has more than one r at most where END of a subroutine is
-- reached: by falling, at END IF or the label behind the copy; by a jump, at that label.
pub data Stands (us : List (List Labelled)) (list : List Labelled) : Context → (at : ℕ → ℕ) → (position r : ℕ) → Type 0 where
  -- an executable of a statement that has one copy
  at_copy : {c : Context} {at : ℕ → ℕ} {position r : ℕ} (place j : ℕ) (s : Labelled)
      → slice_get (unit_at us c.unit) place ≡ Some s
      → is_kept c.unit s.stmt ≡ true
      → call_in s.stmt ≡ None
      → j < own_executables s.stmt
      → position ≡ first_of (unit_at us c.unit) place + j → r ≡ first_of list (at place) + j → Stands us list c at position r
  -- a CALL, or the test before it: the label before the copy
  at_call : {c : Context} {at : ℕ → ℕ} {position r : ℕ} (place : ℕ) (s : Labelled) (call : Call)
      → slice_get (unit_at us c.unit) place ≡ Some s
      → call_in s.stmt ≡ Some call
      → position ≡ first_of (unit_at us c.unit) place → r ≡ first_of list (at place) → Stands us list c at position r
  -- a CALL whose condition was true: what the called unit does first
  at_guarded : {c : Context} {at : ℕ → ℕ} {position r : ℕ} (place : ℕ) (s : Labelled) (call : Call) (condition : RawExpr)
      → slice_get (unit_at us c.unit) place ≡ Some s
      → call_in s.stmt ≡ Some call
      → guard_of s.stmt ≡ Some condition
      → position ≡ first_of (unit_at us c.unit) place + 1
      → Stands us list (called_context us c place call) (copied_place us (called_context us c place call) (at place + lines_before (guard_of s.stmt))) 0 r
      → Stands us list c at position r
  -- an increment of a DO
  at_increment : {c : Context} {at : ℕ → ℕ} {position r : ℕ} (place i : ℕ) (s : Labelled)
      → slice_get (unit_at us c.unit) place ≡ Some s
      → is_kept c.unit s.stmt ≡ true
      → i < length (loops_to (unit_at us c.unit) s.label)
      → position ≡ first_of (unit_at us c.unit) place + own_executables s.stmt + i
      → r ≡ first_increment us list c at place s + i
      → Stands us list c at position r
  -- END of a subroutine, to which control fell
  at_end : {c : Context} {at : ℕ → ℕ} {position r : ℕ} (place : ℕ) (s : Labelled)
      → slice_get (unit_at us c.unit) place ≡ Some s
      → is_kept c.unit s.stmt ≡ false
      → is_end s.stmt ≡ true
      → position ≡ first_of (unit_at us c.unit) place → r ≡ first_of list (at place) → Stands us list c at position r
  -- the same, to which a statement jumped
  at_jump : {c : Context} {at : ℕ → ℕ} {position r : ℕ} (place : ℕ) (s : Labelled)
      → slice_get (unit_at us c.unit) place ≡ Some s
      → is_kept c.unit s.stmt ≡ false
      → is_end s.stmt ≡ true
      → position ≡ first_of (unit_at us c.unit) place → r ≡ labelled list (changes us c).back → Stands us list c at position r

-- ---- statements

-- the statement that stands in for one
abbrev pub standing : Labelled → Labelled
standing s = record s { stmt = stand_in s.stmt }

-- the copy of a statement that has one
abbrev pub copy_of : List (List Labelled) → Context → (place : ℕ) → Labelled → Labelled
copy_of us c place s = bare (if s.label == 0 then 0 else number_at us c.depth c.unit c.base place) s.line (changed_stmt (changes us c) s.stmt)

-- the labels that stand for a CALL: before the copy, and behind it
abbrev pub label_before : List (List Labelled) → Context → (place : ℕ) → Labelled → Labelled
label_before us c place s = bare (number_at us c.depth c.unit c.base place) s.line Continue

abbrev pub label_behind : List (List Labelled) → Context → (place : ℕ) → Labelled → Call → Labelled
label_behind us c place s call = bare (number_at us c.depth c.unit c.base place + body_labels us c.depth (unit_of us call.name) + 1) s.line Continue

-- a statement, or the one after its condition
abbrev pub IsPartOf : Stmt → Stmt → Type 0
IsPartOf s t = (t ≡ s) ⊎ (t ≡ inner s)

-- a DO of the unit to this label
pub record IsDoOf (unit : List Labelled) (label : ℕ) (t : Stmt) : Type 0 where
  pub place : ℕ
  pub s : Labelled
  pub is : slice_get unit place ≡ Some s
  pub ends : is_do_to label s.stmt ≡ true
  pub same : t ≡ s.stmt

-- a statement of a unit, in a context that is reached
pub record IsStatementIn (us : List (List Labelled)) (c : Context) (at : ℕ → ℕ) (place : ℕ) (s : Labelled) : Type 0 where
  pub reached : IsReached us c at
  pub stands : slice_get (unit_at us c.unit) place ≡ Some s
