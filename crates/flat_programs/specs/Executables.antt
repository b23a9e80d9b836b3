-- The executables of a flat program: a logical IF has a test and the GO TO after it, and a mark where the range of a DO ends has the
-- increment of that DO after it.
use Rattle.std.specs.Prelude.{ℕ, ◌+◌, Bool, if◌then◌else◌, List, [], ◌∷◌, length, map, flat_map, sum_by, Option, Some, None, option_to_list, slice_get}
use Rattle.std.specs.List.{range_with_len}
use Rattle.f77_tree.specs.declared.programs.Exec.{Exec}
use Rattle.f77_tree.specs.declared.programs.ExecKind.{ExecKind}
use Rattle.f77_tree.specs.declared.programs.ExecKind.TheVariants.{Assign, Print, Pass, Test, Sign, Pick, DoStart, DoNext, End}
use Rattle.f77_tree.specs.declared.programs.Program.{Program}
use Rattle.flat_programs.specs.declared.statements.Flat.{Flat}
use Rattle.flat_programs.specs.declared.statements.Flat.TheVariants.{Mark, Assignment, Output, LogicalIf, ArithmeticIf, ComputedGoTo, DoLoop, Jump, Finish}
use Rattle.flat_programs.specs.declared.statements.FlatLine.{FlatLine}
use Rattle.flat_programs.specs.Marks.{mark_at, place_of, loop_at, loop_count, loop_to, is_end, variable_in}

-- ---- places of executables

-- how many executables a statement has, where it is told whether the range of a DO ends at it, if it is a mark
abbrev pub width_by : (ends : Bool) → Flat → ℕ
width_by ends Mark = if ends then 2 else 1
width_by ends (LogicalIf cond target) = 2
width_by ends _ = 1

-- how many executables the statement at this place has
abbrev pub width : List FlatLine → (place : ℕ) → Flat → ℕ
width flat place stmt = width_by (is_end flat (mark_at flat place)) stmt

abbrev pub width_in : List FlatLine → (place : ℕ) → Option FlatLine → ℕ
width_in flat place None = 0
width_in flat place (Some l) = width flat place l.stmt

abbrev pub width_at : List FlatLine → (place : ℕ) → ℕ
width_at flat place = width_in flat place (slice_get flat place)

-- the index of the first executable of the statement at this place
abbrev pub first_of : List FlatLine → (place : ℕ) → ℕ
first_of flat place = sum_by (width_at flat) (range_with_len 0 place)

-- ---- where control goes

-- the executable of the mark with this number
abbrev pub marked : List FlatLine → (number : ℕ) → ℕ
marked flat number = first_of flat (place_of flat number)

-- the executable after the mark with this number, and after the increment that may stand there
abbrev pub beyond : List FlatLine → (number : ℕ) → ℕ
beyond flat number = first_of flat (place_of flat number + 1)

-- ---- executables

-- what the first executable of a statement at this place does
abbrev pub leading : List FlatLine → (place : ℕ) → Flat → ExecKind
leading flat place Mark = Pass (first_of flat place + 1)
leading flat place (Assignment target value) = Assign target value (first_of flat (place + 1))
leading flat place (Output items) = Print items (first_of flat (place + 1))
leading flat place (LogicalIf cond target) = Test cond (first_of flat place + 1) (first_of flat (place + 1))
leading flat place (ArithmeticIf value below at above) = Sign value (marked flat below) (marked flat at) (marked flat above)
leading flat place (ComputedGoTo value targets) = Pick value (map (marked flat) targets) (first_of flat (place + 1))
leading flat place (DoLoop end var first last step) = DoStart (loop_at flat place) var first last step (first_of flat (place + 1)) (beyond flat end)
leading flat place (Jump target) = Pass (marked flat target)
leading flat place Finish = End

-- the increment of the DO at the place d, after which control goes on to an executable
abbrev pub increment : List FlatLine → (d next : ℕ) → ExecKind
increment flat d next = DoNext (loop_at flat d) (variable_in (slice_get flat d)) (first_of flat (d + 1)) next

-- the increment of the DO whose range ends at the mark with this number, if there is one
abbrev pub increments : List FlatLine → (number next : ℕ) → Option ExecKind
increments flat number next = if is_end flat number then Some (increment flat (loop_to flat number) next) else None

-- what the executable after the first one does, if the statement at this place has another
abbrev pub following : List FlatLine → (place : ℕ) → Flat → Option ExecKind
following flat place Mark = increments flat (mark_at flat place) (first_of flat (place + 1))
following flat place (LogicalIf cond target) = Some (Pass (marked flat target))
following flat place _ = None

abbrev pub executables_in : List FlatLine → (place : ℕ) → Option FlatLine → List Exec
executables_in flat place None = []
executables_in flat place (Some l) = map (λ kind. record { line = l.line; kind = kind }) (leading flat place l.stmt ∷ option_to_list (following flat place l.stmt))

-- the executables of the statement at this place; each has its line
abbrev pub executables_at : List FlatLine → (place : ℕ) → List Exec
executables_at flat place = executables_in flat place (slice_get flat place)

-- all executables, in the order of the text
abbrev pub executables : List FlatLine → List Exec
executables flat = flat_map (executables_at flat) (range_with_len 0 (length flat))

-- a program with the declarations of another one and the executables of these statements
abbrev pub program_of : Program → List FlatLine → Program
program_of q flat = record q { execs = executables flat; loops = loop_count flat }
