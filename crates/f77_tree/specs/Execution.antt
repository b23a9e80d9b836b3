-- What an executable does: the meaning of each kind.
use Rattle.std.specs.Prelude.{Bool, true, false, ℕ, ◌+◌, ◌-◌, ℤ, pos, ◌+ℤ◌, nat_lt, if◌then◌else◌, List, [], ◌∷◌, ◌++◌, length, Option, None, Result, Ok, Err, slice_get, slice_index, slice_set}
use Rattle.std.specs.Ordering.{int_eq}
use Rattle.op_table.specs.declared.Op.{Op}
use Rattle.op_table.specs.declared.Op.TheVariants.{Truth as Truth_of}
use Rattle.op_table.specs.declared.Trap.{Trap}
use Rattle.op_table.specs.declared.Trap.TheVariants.{Step as NoStep}
use Rattle.op_table.specs.Words.{is_true, wrapped}
use Rattle.op_table.specs.Operators.{which_of_three, picked}
use Rattle.op_table.specs.Trips.{at_least_zero, trip_count}
use Rattle.f77_tree.specs.declared.expressions.Access.{Access}
use Rattle.f77_tree.specs.declared.expressions.Expr.{Expr, Row_of-Expr, end_of-Expr, more_of-Expr}
use Rattle.f77_tree.specs.declared.expressions.Expr.TheVariants.{Input, Apply'}
use Rattle.f77_tree.specs.declared.programs.ExecKind.{ExecKind}
use Rattle.f77_tree.specs.declared.programs.ExecKind.TheVariants.{Assign, Print, Pass, Test, Sign, Pick, DoStart, DoNext, End}
use Rattle.f77_tree.specs.declared.programs.Item.{Item}
use Rattle.f77_tree.specs.declared.programs.NameInfo.{NameInfo}
use Rattle.f77_tree.specs.Value.{value, place, place_of, word_at}
use Rattle.f77_tree.specs.Line.{line_of}

-- what executables read and change
pub record Memory : Type 0 where
  -- the words of storage
  pub store : List ℤ
  -- for each DO, how often its range is still to be executed, and the step that it began with
  pub counts : List ℕ
  pub steps : List ℤ
  -- how many words of the data were taken
  pub taken : ℕ

-- what comes of an executable: another one follows, in this memory and after this text was written; or it traps; or the
-- run ends
pub data Outcome : Type 0 where
  Goes : (next : ℕ) (memory : Memory) (text : List ℕ) → Outcome
  Stops : (trap : Trap) → Outcome
  Ends : Outcome

-- ---- what executables read

-- the next word of the data, if one is left
abbrev pub next_word : List ℤ → Memory → Option ℤ
next_word input m = slice_get input m.taken

-- the value of an expression that takes no data
abbrev pub value_in : List NameInfo → Memory → Expr → Result ℤ Trap
value_in names m e = value names m.store None e

-- ---- assignment: the target's subscripts come first, then the value, and then the word is stored

abbrev pub is_input : Expr → Bool
is_input Input = true
is_input _ = false

abbrev pub row_inputs : {m : _} → Row_of-Expr m → List Bool
row_inputs end_of-Expr = []
row_inputs (more_of-Expr e rest) = is_input e ∷ row_inputs rest

abbrev pub is_truth : Op → Bool
is_truth Truth_of = true
is_truth _ = false

abbrev pub count_if : Bool → List Bool → ℕ
count_if true (true ∷ []) = 1
count_if _ _ = 0

-- how many words of the data a value takes: one, where it is the next word or the truth of that
abbrev pub words_taken : Expr → ℕ
words_taken Input = 1
words_taken (Apply' op shape args) = count_if (is_truth op) (row_inputs args)
words_taken _ = 0

abbrev pub assigned : Memory → (next taken : ℕ) → Result ℕ Trap → Result ℤ Trap → Outcome
assigned m next taken (Err trap) value = Stops trap
assigned m next taken (Ok word) (Err trap) = Stops trap
assigned m next taken (Ok word) (Ok z) = Goes next (record m { store = slice_set m.store word z; taken = taken }) []

abbrev pub assign_outcome : List NameInfo → List ℤ → Memory → (target : Access) (e : Expr) (next : ℕ) → Outcome
assign_outcome names input m target e next =
    let word = next_word input m in
    assigned m next (m.taken + words_taken e) (place names m.store word target) (value names m.store word e)

-- ---- PRINT

abbrev pub printed : Memory → (next : ℕ) → Result (List ℕ) Trap → Outcome
printed m next (Err trap) = Stops trap
printed m next (Ok line) = Goes next m line

abbrev pub print_outcome : List NameInfo → Memory → List Item → (next : ℕ) → Outcome
print_outcome names m items next = printed m next (line_of names m.store items)

-- ---- branches

-- the executable that follows by a value
abbrev pub branched : Memory → (ℤ → ℕ) → Result ℤ Trap → Outcome
branched m next_at (Err trap) = Stops trap
branched m next_at (Ok z) = Goes (next_at z) m []

-- one of three, by the sign of a number
abbrev pub by_sign : (neg zero' pos' : ℕ) → ℤ → ℕ
by_sign neg zero' pos' z = slice_index (neg ∷ zero' ∷ pos' ∷ []) (at_least_zero (which_of_three z))

-- the target with this number, counted from 1, or the other one where there is none
abbrev pub by_number : (targets : List ℕ) (other : ℕ) → (count v : ℤ) → ℕ
by_number targets other count v = slice_index (targets ++ other ∷ []) (at_least_zero (picked v count))

abbrev pub test_outcome : List NameInfo → Memory → (cond : Expr) (yes' no' : ℕ) → Outcome
test_outcome names m cond yes' no' = branched m (λ z. if is_true z then yes' else no') (value_in names m cond)

abbrev pub sign_outcome : List NameInfo → Memory → (e : Expr) (neg zero' pos' : ℕ) → Outcome
sign_outcome names m e neg zero' pos' = branched m (by_sign neg zero' pos') (value_in names m e)

abbrev pub pick_outcome : List NameInfo → Memory → (e : Expr) (targets : List ℕ) (other : ℕ) → Outcome
pick_outcome names m e targets other = branched m (by_number targets other (pos (length targets))) (value_in names m e)

-- ---- DO

-- the range is executed once more where the count isn't 0
abbrev pub after_test : Memory → (count body exit : ℕ) → Outcome
after_test m count body exit = Goes (if nat_lt 0 count then body else exit) m []

-- the variable, the count and the step are set, and the count is tested
abbrev pub started : Memory → (loop_no word body exit : ℕ) → (first last step : ℤ) → Outcome
started m loop_no word body exit first last step =
    let count = trip_count first last step in
    after_test (record m { store = slice_set m.store word first; counts = slice_set m.counts loop_no count; steps = slice_set m.steps loop_no step }) count body exit

-- the values come in this order; a step of 0 is a trap
abbrev pub do_begun : Memory → (loop_no word body exit : ℕ) → (first last step : Result ℤ Trap) → Outcome
do_begun m loop_no word body exit (Err trap) last step = Stops trap
do_begun m loop_no word body exit (Ok a) (Err trap) step = Stops trap
do_begun m loop_no word body exit (Ok a) (Ok b) (Err trap) = Stops trap
do_begun m loop_no word body exit (Ok a) (Ok b) (Ok c) = if int_eq c (pos 0) then Stops NoStep else started m loop_no word body exit a b c

abbrev pub start_outcome : List NameInfo → Memory → (loop_no var : ℕ) (first last step : Expr) (body exit : ℕ) → Outcome
start_outcome names m loop_no var first last step body exit =
    do_begun m loop_no (place_of names var) body exit (value_in names m first) (value_in names m last) (value_in names m step)

-- the step is added to the variable, 1 is taken from the count, and the count is tested
abbrev pub do_incremented : Memory → (loop_no word body exit : ℕ) → Outcome
do_incremented m loop_no word body exit =
    let count = slice_index m.counts loop_no - 1 in
    after_test (record m { store = slice_set m.store word (wrapped (word_at m.store word +ℤ word_at m.steps loop_no)); counts = slice_set m.counts loop_no count }) count body exit

abbrev pub increment_outcome : List NameInfo → Memory → (loop_no var body exit : ℕ) → Outcome
increment_outcome names m loop_no var body exit = do_incremented m loop_no (place_of names var) body exit

-- ---- the kinds, over the data

abbrev pub outcome : List NameInfo → List ℤ → Memory → ExecKind → Outcome
outcome names input m (Assign target e next) = assign_outcome names input m target e next
outcome names input m (Print items next) = print_outcome names m items next
outcome names input m (Pass next) = Goes next m []
outcome names input m (Test cond yes' no') = test_outcome names m cond yes' no'
outcome names input m (Sign e neg zero' pos') = sign_outcome names m e neg zero' pos'
outcome names input m (Pick e targets other) = pick_outcome names m e targets other
outcome names input m (DoStart loop_no var first last step body exit) = start_outcome names m loop_no var first last step body exit
outcome names input m (DoNext loop_no var body exit) = increment_outcome names m loop_no var body exit
outcome names input m End = Ends
