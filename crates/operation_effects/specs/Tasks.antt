-- The tasks of operations: what operations do, with what they look up of names.
use Rattle.std.specs.Prelude.{◌≡◌, ◌<◌, ◌≤◌, ◌+◌, ◌-◌, ◌+ℤ◌, ℕ, ℤ, pos, int_le, int_lt, nat_lt, ◌&&◌, Bool, if◌then◌else◌, List, [], ◌∷◌, All, Option, None, Some, Result, Ok, slice_index, slice_set}
use Rattle.op_table.specs.declared.Op.{Op}
use Rattle.op_table.specs.declared.Op.TheVariants.{Add, Bound, Eq, Ge, Gt, Le, Lt, Mul, Ne, Place, Sub}
use Rattle.op_table.specs.declared.Trap.{Trap}
use Rattle.op_table.specs.Operators.{applied, arity_of, picked, which_of_three}
use Rattle.op_table.specs.Trips.{at_least_zero}
use Rattle.op_table.specs.Words.{is_true, wrapped}
use Rattle.f77_tree.specs.declared.declarations.Kind.{Kind}
use Rattle.f77_tree.specs.declared.programs.NameInfo.{NameInfo}
use Rattle.f77_tree.specs.declared.programs.Program.{Program}
use Rattle.f77_tree.specs.CanRun.{CanPrint}
use Rattle.f77_tree.specs.Execution.{Memory, next_word}
use Rattle.f77_tree.specs.Line.{line_room, line_with}
use Rattle.f77_tree.specs.Value.{dims_of, kind_of, place_of, read_as, size_of, word_at}
use Rattle.op_board.specs.Operations as board
use Rattle.op_board.specs.Effects.{Effect, changes, gives, result_given, stored_at, taken_from, tells, trips}
use Rattle.operation_effects.specs.declared.tasks.Task.{Task}
use Rattle.operation_effects.specs.declared.tasks.Task.TheVariants as task

-- ---- the task of an operation

-- the operator of a task that gives the value of one
abbrev pub operator_of : Task → Option Op
operator_of (task.Operate op) = Some op
operator_of task.Add = Some Add
operator_of task.Sub = Some Sub
operator_of task.Mul = Some Mul
operator_of task.Lt = Some Lt
operator_of task.Le = Some Le
operator_of task.Eq = Some Eq
operator_of task.Ne = Some Ne
operator_of task.Ge = Some Ge
operator_of task.Gt = Some Gt
operator_of task.Bound = Some Bound
operator_of task.Place = Some Place
operator_of _ = None

-- an access of a scalar has no subscripts, and a task without a place
abbrev pub IsTaskOf : List NameInfo → board.Work → Task → Type 0
IsTaskOf names (board.Load name []) (task.Load word kind) = (word ≡ place_of names name) × (kind ≡ kind_of names name)
IsTaskOf names (board.Load name (sub ∷ subs)) (task.LoadAt word size kind) = (word ≡ place_of names name) × (pos size ≡ size_of (dims_of names name)) × (kind ≡ kind_of names name)
IsTaskOf names (board.Operate op) of_work = operator_of of_work ≡ Some op
IsTaskOf names (board.Store name []) (task.Store word) = word ≡ place_of names name
IsTaskOf names (board.Store name (sub ∷ subs)) (task.StoreAt word size) = (word ≡ place_of names name) × (pos size ≡ size_of (dims_of names name))
IsTaskOf names board.Take task.Take = Unit {0}
IsTaskOf names (board.Write items) (task.Write texts) = texts.now ≡ items
IsTaskOf names (board.Begin loop_no var) (task.Begin number word) = (number ≡ loop_no) × (word ≡ place_of names var)
IsTaskOf names (board.Advance loop_no var) (task.Advance number word) = (number ≡ loop_no) × (word ≡ place_of names var)
IsTaskOf names board.DecideTruth task.DecideTruth = Unit {0}
IsTaskOf names board.DecideSign task.DecideSign = Unit {0}
IsTaskOf names (board.DecideNumber count) (task.DecideNumber number) = number ≡ count
IsTaskOf names (board.DecideTrips loop_no) (task.DecideTrips number) = number ≡ loop_no
IsTaskOf names board.DecideFirst task.DecideFirst = Unit {0}
IsTaskOf names work of_work = ⊥

-- ---- what a program must have for a task

-- the words and DOs of the task are the program's, and what it writes fits the table of names
abbrev pub CanPerform : Program → Task → Type 0
CanPerform p (task.Load word kind) = word < p.words
CanPerform p (task.LoadAt word size kind) = word + size ≤ p.words
CanPerform p (task.Store word) = word < p.words
CanPerform p (task.StoreAt word size) = word + size ≤ p.words
CanPerform p (task.Write items) = All (CanPrint p.names) items.now
CanPerform p (task.Begin loop_no word) = (loop_no < p.loops) × (word < p.words)
CanPerform p (task.Advance loop_no word) = (loop_no < p.loops) × (word < p.words)
CanPerform p (task.DecideTrips loop_no) = loop_no < p.loops
CanPerform p _ = Unit {0}

-- it takes so many operands; what is written has any number of them
abbrev pub TakesOperands : Task → ℕ → Type 0
TakesOperands (task.Load word kind) count = count ≡ 0
TakesOperands (task.LoadAt word size kind) count = count ≡ 1
TakesOperands (task.Operate op) count = count ≡ arity_of op
TakesOperands task.Add count = count ≡ 2
TakesOperands task.Sub count = count ≡ 2
TakesOperands task.Mul count = count ≡ 2
TakesOperands task.Lt count = count ≡ 2
TakesOperands task.Le count = count ≡ 2
TakesOperands task.Eq count = count ≡ 2
TakesOperands task.Ne count = count ≡ 2
TakesOperands task.Ge count = count ≡ 2
TakesOperands task.Gt count = count ≡ 2
TakesOperands task.Bound count = count ≡ 3
TakesOperands task.Place count = count ≡ 3
TakesOperands (task.Store word) count = count ≡ 1
TakesOperands (task.StoreAt word size) count = count ≡ 2
TakesOperands (task.Begin loop_no word) count = count ≡ 3
TakesOperands task.DecideTruth count = count ≡ 1
TakesOperands task.DecideSign count = count ≡ 1
TakesOperands (task.DecideNumber number) count = count ≡ 1
TakesOperands _ count = Unit {0}

-- how many bytes it may write
abbrev pub task_room : Task → ℕ
task_room (task.Write items) = line_room items.now
task_room _ = 0

-- ---- what tasks do

-- the place lies in an array of so many words
abbrev pub lies_in : (size : ℕ) → (place : ℤ) → Bool
lies_in size place = int_le (pos 0) place && int_lt place (pos size)

-- outside its array a place has no word: a load gives 0 there, and a store writes none
abbrev pub loaded_at : List ℤ → (word size : ℕ) → Kind → (place : ℤ) → ℤ
loaded_at store word size kind place = if lies_in size place then read_as kind (word_at store (word + at_least_zero place)) else pos 0

abbrev pub stored_in : Memory → (word size : ℕ) → (place z : ℤ) → Memory
stored_in m word size place z = if lies_in size place then stored_at m (word + at_least_zero place) z else m

abbrev pub loop_begun : Memory → (loop_no word : ℕ) → (first last step : ℤ) → Memory
loop_begun m loop_no word first last step = record m {
  store = slice_set m.store word first;
  counts = slice_set m.counts loop_no (trips first last step);
  steps = slice_set m.steps loop_no step;
}

abbrev pub loop_advanced : Memory → (loop_no word : ℕ) → Memory
loop_advanced m loop_no word = record m {
  store = slice_set m.store word (wrapped (word_at m.store word +ℤ word_at m.steps loop_no));
  counts = slice_set m.counts loop_no (slice_index m.counts loop_no - 1);
}

-- the effect of a task at the values of its operands
abbrev pub task_done : List NameInfo → (input : List ℤ) → Memory → Task → List ℤ → Result Effect Trap
task_done names input m (task.Load word kind) args = Ok (gives m (read_as kind (word_at m.store word)))
task_done names input m (task.LoadAt word size kind) args = Ok (gives m (loaded_at m.store word size kind (word_at args 0)))
task_done names input m (task.Operate op) args = result_given m (applied op args)
task_done names input m task.Add args = result_given m (applied Add args)
task_done names input m task.Sub args = result_given m (applied Sub args)
task_done names input m task.Mul args = result_given m (applied Mul args)
task_done names input m task.Lt args = result_given m (applied Lt args)
task_done names input m task.Le args = result_given m (applied Le args)
task_done names input m task.Eq args = result_given m (applied Eq args)
task_done names input m task.Ne args = result_given m (applied Ne args)
task_done names input m task.Ge args = result_given m (applied Ge args)
task_done names input m task.Gt args = result_given m (applied Gt args)
task_done names input m task.Bound args = result_given m (applied Bound args)
task_done names input m task.Place args = result_given m (applied Place args)
task_done names input m (task.Store word) args = Ok (changes (stored_at m word (word_at args 0)))
task_done names input m (task.StoreAt word size) args = Ok (changes (stored_in m word size (word_at args 0) (word_at args 1)))
task_done names input m task.Take args = taken_from m (next_word input m)
task_done names input m (task.Write items) args = Ok (record { value = None; memory = m; text = line_with names items.now args; choice = 0 })
task_done names input m (task.Begin loop_no word) args = Ok (changes (loop_begun m loop_no word (word_at args 0) (word_at args 1) (word_at args 2)))
task_done names input m (task.Advance loop_no word) args = Ok (changes (loop_advanced m loop_no word))
task_done names input m task.DecideTruth args = Ok (tells m (if is_true (word_at args 0) then 0 else 1))
task_done names input m task.DecideSign args = Ok (tells m (at_least_zero (which_of_three (word_at args 0))))
task_done names input m (task.DecideNumber count) args = Ok (tells m (at_least_zero (picked (word_at args 0) (pos count))))
task_done names input m (task.DecideTrips loop_no) args = Ok (tells m (if nat_lt 0 (slice_index m.counts loop_no) then 0 else 1))
task_done names input m task.DecideFirst args = Ok (tells m 0)
