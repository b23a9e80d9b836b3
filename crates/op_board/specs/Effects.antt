-- What an operation does at the values of its operands, and what the operations of a piece do one after another.
use Rattle.std.specs.Prelude.{ℕ, suc, ◌+◌, ◌-◌, ℤ, pos, ◌+ℤ◌, int_le, int_lt, ◌&&◌, Bool, nat_lt, if◌then◌else◌, List, [], ◌∷◌, ◌++◌, length, map, Option, Some, None, Result, Ok, Err, slice_get, slice_index, slice_set, unwrap_or}
use Rattle.std.specs.Ordering.{int_eq}
use Rattle.op_table.specs.declared.Trap.{Trap}
use Rattle.op_table.specs.declared.Trap.TheVariants.{Input as NoInput}
use Rattle.op_table.specs.Operators.{applied, which_of_three, picked}
use Rattle.op_table.specs.Trips.{at_least_zero, trip_count}
use Rattle.op_table.specs.Words.{is_true, wrapped}
use Rattle.f77_tree.specs.declared.programs.NameInfo.{NameInfo}
use Rattle.f77_tree.specs.Execution.{Memory, next_word}
use Rattle.f77_tree.specs.Line.{line_with}
use Rattle.f77_tree.specs.Value.{dims_of, kind_of, place_of, read_as, size_of, word_at}
use Rattle.op_board.specs.Operations.{Operand, Known, From, Work, Load, Operate, Store, Take, Write, Begin, Advance, DecideTruth, DecideSign, DecideNumber, DecideTrips, DecideFirst, Operation}

-- what comes of an operation that doesn't trap: the value that it gives, the memory then, the text that it writes, and which of
-- the edges that leave its piece it tells, the first where it tells none
pub record Effect : Type 0 where
  pub value : Option ℤ
  pub memory : Memory
  pub text : List ℕ
  pub choice : ℕ

abbrev pub gives : Memory → ℤ → Effect
gives m z = record { value = Some z; memory = m; text = []; choice = 0 }

abbrev pub changes : Memory → Effect
changes m = record { value = None; memory = m; text = []; choice = 0 }

abbrev pub tells : Memory → (choice : ℕ) → Effect
tells m choice = record { value = None; memory = m; text = []; choice = choice }

-- ---- words at places

-- the place lies in the array
abbrev pub is_place : List NameInfo → (name : ℕ) → (place : ℤ) → Bool
is_place names name place = int_le (pos 0) place && int_lt place (size_of (dims_of names name))

-- the word of a name at a place
abbrev pub word_at_place : List NameInfo → (name : ℕ) → (place : ℤ) → ℕ
word_at_place names name place = place_of names name + at_least_zero place

abbrev pub read_word : List NameInfo → List ℤ → (name word : ℕ) → ℤ
read_word names store name word = read_as (kind_of names name) (word_at store word)

-- outside its array a place has no word: a load gives 0 there, and a store writes none; no run comes to that
abbrev pub loaded : List NameInfo → List ℤ → (name : ℕ) → List ℤ → ℤ
loaded names store name [] = read_word names store name (place_of names name)
loaded names store name (place ∷ more) = if is_place names name place then read_word names store name (word_at_place names name place) else pos 0

abbrev pub stored_at : Memory → (word : ℕ) → ℤ → Memory
stored_at m word z = record m { store = slice_set m.store word z }

abbrev pub stored : List NameInfo → Memory → (name : ℕ) → List ℤ → Memory
stored names m name [] = m
stored names m name (z ∷ []) = stored_at m (place_of names name) z
stored names m name (place ∷ z ∷ more) = if is_place names name place then stored_at m (word_at_place names name place) z else m

-- ---- DOs

-- how often the range is executed; not at all with a step of 0, to which no run comes
abbrev pub trips : (first last step : ℤ) → ℕ
trips first last step = if int_eq step (pos 0) then 0 else trip_count first last step

abbrev pub begun : List NameInfo → Memory → (loop_no var : ℕ) → List ℤ → Memory
begun names m loop_no var (first ∷ last ∷ step ∷ more) = record m {
  store = slice_set m.store (place_of names var) first;
  counts = slice_set m.counts loop_no (trips first last step);
  steps = slice_set m.steps loop_no step;
}
begun names m loop_no var _ = m

-- the step is added to the variable, and 1 is taken from the count
abbrev pub advanced : List NameInfo → Memory → (loop_no var : ℕ) → Memory
advanced names m loop_no var =
    let word = place_of names var in
    record m {
      store = slice_set m.store word (wrapped (word_at m.store word +ℤ word_at m.steps loop_no));
      counts = slice_set m.counts loop_no (slice_index m.counts loop_no - 1);
    }

-- ---- operations

abbrev pub result_given : Memory → Result ℤ Trap → Result Effect Trap
result_given m (Err trap) = Err trap
result_given m (Ok z) = Ok (gives m z)

abbrev pub taken_from : Memory → Option ℤ → Result Effect Trap
taken_from m None = Err NoInput
taken_from m (Some z) = Ok (gives (record m { taken = suc m.taken }) z)

-- the first of the values
abbrev pub first_of : List ℤ → ℤ
first_of [] = pos 0
first_of (z ∷ more) = z

abbrev pub performed : List NameInfo → (input : List ℤ) → Memory → Work → List ℤ → Result Effect Trap
performed names input m (Load name subs) args = Ok (gives m (loaded names m.store name args))
performed names input m (Operate op) args = result_given m (applied op args)
performed names input m (Store name subs) args = Ok (changes (stored names m name args))
performed names input m Take args = taken_from m (next_word input m)
performed names input m (Write items) args = Ok (record { value = None; memory = m; text = line_with names items args; choice = 0 })
performed names input m (Begin loop_no var) args = Ok (changes (begun names m loop_no var args))
performed names input m (Advance loop_no var) args = Ok (changes (advanced names m loop_no var))
performed names input m DecideTruth args = Ok (tells m (if is_true (first_of args) then 0 else 1))
performed names input m DecideSign args = Ok (tells m (at_least_zero (which_of_three (first_of args))))
performed names input m (DecideNumber count) args = Ok (tells m (at_least_zero (picked (first_of args) (pos count))))
performed names input m (DecideTrips loop_no) args = Ok (tells m (if nat_lt 0 (slice_index m.counts loop_no) then 0 else 1))
performed names input m DecideFirst args = Ok (tells m 0)

-- ---- the operations of a piece, one after another

-- an operand, where the operations before have these values
abbrev pub operand_at : List ℤ → Operand → ℤ
operand_at values (Known z) = z
operand_at values (From number) = unwrap_or (slice_get values number) (pos 0)

-- what has become of them: they were all performed, the last one with this effect; or the one with this number traps
pub data Ran : Type 0 where
  All_done : (last : Effect) → Ran
  Stopped : (at : ℕ) (memory : Memory) (trap : Trap) → Ran

-- an operation that gives no value counts as one that gives 0
abbrev pub value_or_zero : Option ℤ → ℤ
value_or_zero value = unwrap_or value (pos 0)

-- what follows an operation, where that doesn't trap
abbrev pub after_one : (at : ℕ) → Memory → (Effect → Ran) → Result Effect Trap → Ran
after_one at memory follow (Err trap) = Stopped at memory trap
after_one at memory follow (Ok effect) = follow effect

-- from some operation on, where those before have these values, and the last one had this effect
abbrev pub ran : List NameInfo → (input values : List ℤ) → Effect → List Operation → Ran
ran names input values last [] = All_done last
ran names input values last (op ∷ ops) =
    after_one (length values) last.memory
    (λ effect. ran names input (values ++ value_or_zero effect.value ∷ []) effect ops)
    (performed names input last.memory op.work (map (operand_at values) op.operands))

-- from the first one on
abbrev pub ran_all : List NameInfo → (input : List ℤ) → Memory → List Operation → Ran
ran_all names input m ops = ran names input [] (changes m) ops
