-- A task does what its operation does.
use Rattle.std.proofs.Common.{◌≡◌, ℕ, ◌+◌, ℤ, pos, if◌then◌else◌, List, [], ◌∷◌, ◌++◌, length, None, Some, Ok, slice_index, nat_lt, refl, sym, ap, ◌∙◌, arith}
use Rattle.std.specs.Prelude.{◌&&◌, int_le, int_lt}
use Rattle.std.proofs.lemmas.Option.{none-some}
use Rattle.op_table.specs.declared.Op.{Op}
use Rattle.op_table.specs.declared.Op.TheVariants as operator
use Rattle.op_table.specs.Operators.{applied, picked}
use Rattle.op_table.specs.Trips.{at_least_zero}
use Rattle.f77_tree.specs.declared.declarations.Kind.{Kind}
use Rattle.f77_tree.specs.declared.programs.Item.{Item}
use Rattle.f77_tree.specs.declared.programs.NameInfo.{NameInfo}
use Rattle.f77_tree.specs.Execution.{Memory}
use Rattle.f77_tree.specs.Line.{line_with, text_with, values_after}
use Rattle.f77_tree.specs.Value.{dims_of, kind_of, place_of, read_as, size_of, word_at}
use Rattle.op_board.specs.Operations as board
use Rattle.op_board.specs.Effects.{changes, gives, performed, result_given, stored_at, tells}
use Rattle.operation_effects.specs.declared.tasks.Task.{Task}
use Rattle.operation_effects.specs.declared.tasks.Task.TheVariants as task
use Rattle.operation_effects.specs.Tasks.{IsTaskOf, TakesOperands, loop_advanced, loop_begun, operator_of, task_done}

no_line : (byte : ℕ) (rest : List ℕ) → byte ∷ rest ≡ [] → ⊥
no_line byte rest is = cc

-- a line has its end
pub line_some : (names : List NameInfo) (items : List Item) (values : List ℤ) (line : List ℕ) → line ≡ line_with names items values → line ≡ [] → ⊥
line_some names [] values line is none = no_line 10 [] (sym is ∙ none)
line_some names (item ∷ items) values line is none = no_line 32 (text_with names item values ++ line_with names items (values_after item values)) (sym is ∙ none)

module _ (names : List NameInfo) (input : List ℤ) (m : Memory) where
  -- a load of an array at a place
  at_place : (word other : ℕ) (size bound : ℤ) (kind of_name : Kind) (place : ℤ) → word ≡ other → size ≡ bound → kind ≡ of_name
      → (if int_le (pos 0) place && int_lt place bound then read_as of_name (word_at m.store (other + at_least_zero place)) else pos 0) ≡ (if int_le (pos 0) place && int_lt place size then read_as kind (word_at m.store (word + at_least_zero place)) else pos 0)
  at_place word other size bound kind of_name place same sizes kinds =
      ap (λ w. if int_le (pos 0) place && int_lt place bound then read_as of_name (word_at m.store (w + at_least_zero place)) else pos 0) (sym same)
      ∙ ap (λ z. if int_le (pos 0) place && int_lt place z then read_as of_name (word_at m.store (word + at_least_zero place)) else pos 0) (sym sizes)
      ∙ ap (λ k. if int_le (pos 0) place && int_lt place size then read_as k (word_at m.store (word + at_least_zero place)) else pos 0) (sym kinds)

  -- and a store
  stored_alike : (word other : ℕ) (size bound place z : ℤ) → word ≡ other → size ≡ bound
      → (if int_le (pos 0) place && int_lt place bound then stored_at m (other + at_least_zero place) z else m) ≡ (if int_le (pos 0) place && int_lt place size then stored_at m (word + at_least_zero place) z else m)
  stored_alike word other size bound place z same sizes =
      ap (λ w. if int_le (pos 0) place && int_lt place bound then stored_at m (w + at_least_zero place) z else m) (sym same)
      ∙ ap (λ s. if int_le (pos 0) place && int_lt place s then stored_at m (word + at_least_zero place) z else m) (sym sizes)

  begun_alike : (loop_no number word other : ℕ) (first last step : ℤ) → number ≡ loop_no → word ≡ other → loop_begun m loop_no other first last step ≡ loop_begun m number word first last step
  begun_alike loop_no number word other first last step numbers words =
      ap (λ n. loop_begun m n other first last step) (sym numbers) ∙ ap (λ w. loop_begun m number w first last step) (sym words)

  advanced_alike : (loop_no number word other : ℕ) → number ≡ loop_no → word ≡ other → loop_advanced m loop_no other ≡ loop_advanced m number word
  advanced_alike loop_no number word other numbers words =
      ap (λ n. loop_advanced m n other) (sym numbers) ∙ ap (λ w. loop_advanced m number w) (sym words)

  -- the value of an operator
  same_operator : (own op : Op) (args : List ℤ) → Some own ≡ Some op → result_given m (applied op args) ≡ result_given m (applied own args)
  same_operator own op args is = let same : op ≡ own = cc in ap (λ (o : Op). result_given m (applied o args)) same

  operator_effect : (of_work : Task) (op : Op) (args : List ℤ) → operator_of of_work ≡ Some op → result_given m (applied op args) ≡ task_done names input m of_work args
  operator_effect (task.Operate own) op args is = same_operator own op args is
  operator_effect task.Add op args is = same_operator operator.Add op args is
  operator_effect task.Sub op args is = same_operator operator.Sub op args is
  operator_effect task.Mul op args is = same_operator operator.Mul op args is
  operator_effect task.Lt op args is = same_operator operator.Lt op args is
  operator_effect task.Le op args is = same_operator operator.Le op args is
  operator_effect task.Eq op args is = same_operator operator.Eq op args is
  operator_effect task.Ne op args is = same_operator operator.Ne op args is
  operator_effect task.Ge op args is = same_operator operator.Ge op args is
  operator_effect task.Gt op args is = same_operator operator.Gt op args is
  operator_effect task.Bound op args is = same_operator operator.Bound op args is
  operator_effect task.Place op args is = same_operator operator.Place op args is
  operator_effect of_work op args is = absurd (none-some op is)

  pub task_effect : (work : board.Work) (of_work : Task) (args : List ℤ) → IsTaskOf names work of_work → TakesOperands of_work (length args) → performed names input m work args ≡ task_done names input m of_work args
  task_effect (board.Load name []) (task.Load word kind) [] is takes =
      ap (λ w. Ok (gives m (read_as (kind_of names name) (word_at m.store w)))) (sym is.0)
      ∙ ap (λ k. Ok (gives m (read_as k (word_at m.store word)))) (sym is.1)
  task_effect (board.Load name []) (task.Load word kind) (z ∷ args) is takes = absurd (omega (arith, takes))
  task_effect (board.Load name (sub ∷ subs)) (task.LoadAt word size kind) [] is takes = absurd (omega (arith, takes))
  task_effect (board.Load name (sub ∷ subs)) (task.LoadAt word size kind) (place ∷ args) is takes =
      ap (λ z. Ok (gives m z)) (at_place word (place_of names name) (pos size) (size_of (dims_of names name)) kind (kind_of names name) place is.0 is.1 is.2)
  task_effect (board.Operate op) of_work args is takes = operator_effect of_work op args is
  task_effect (board.Store name []) (task.Store word) [] is takes = absurd (omega (arith, takes))
  task_effect (board.Store name []) (task.Store word) (z ∷ []) is takes = ap (λ w. Ok (changes (stored_at m w z))) (sym is)
  task_effect (board.Store name []) (task.Store word) (z ∷ y ∷ args) is takes = absurd (omega (arith, takes))
  task_effect (board.Store name (sub ∷ subs)) (task.StoreAt word size) [] is takes = absurd (omega (arith, takes))
  task_effect (board.Store name (sub ∷ subs)) (task.StoreAt word size) (z ∷ []) is takes = absurd (omega (arith, takes))
  task_effect (board.Store name (sub ∷ subs)) (task.StoreAt word size) (place ∷ z ∷ args) is takes =
      ap (λ (n : Memory). Ok (changes n)) (stored_alike word (place_of names name) (pos size) (size_of (dims_of names name)) place z is.0 is.1)
  task_effect board.Take task.Take args is takes = refl
  task_effect (board.Write items) (task.Write texts) args is takes =
      ap (λ (xs : List Item). Ok (record { value = None; memory = m; text = line_with names xs args; choice = 0 })) (sym is)
  task_effect (board.Begin loop_no var) (task.Begin number word) [] is takes = absurd (omega (arith, takes))
  task_effect (board.Begin loop_no var) (task.Begin number word) (first ∷ []) is takes = absurd (omega (arith, takes))
  task_effect (board.Begin loop_no var) (task.Begin number word) (first ∷ last ∷ []) is takes = absurd (omega (arith, takes))
  task_effect (board.Begin loop_no var) (task.Begin number word) (first ∷ last ∷ step ∷ args) is takes =
      ap (λ (n : Memory). Ok (changes n)) (begun_alike loop_no number word (place_of names var) first last step is.0 is.1)
  task_effect (board.Advance loop_no var) (task.Advance number word) args is takes =
      ap (λ (n : Memory). Ok (changes n)) (advanced_alike loop_no number word (place_of names var) is.0 is.1)
  task_effect board.DecideTruth task.DecideTruth [] is takes = absurd (omega (arith, takes))
  task_effect board.DecideTruth task.DecideTruth (z ∷ args) is takes = refl
  task_effect board.DecideSign task.DecideSign [] is takes = absurd (omega (arith, takes))
  task_effect board.DecideSign task.DecideSign (z ∷ args) is takes = refl
  task_effect (board.DecideNumber count) (task.DecideNumber number) [] is takes = absurd (omega (arith, takes))
  task_effect (board.DecideNumber count) (task.DecideNumber number) (z ∷ args) is takes =
      ap (λ n. Ok (tells m (at_least_zero (picked z (pos n))))) (sym is)
  task_effect (board.DecideTrips loop_no) (task.DecideTrips number) args is takes =
      ap (λ n. Ok (tells m (if nat_lt 0 (slice_index m.counts n) then 0 else 1))) (sym is)
  task_effect board.DecideFirst task.DecideFirst args is takes = refl
  task_effect work of_work args is takes = absurd is
