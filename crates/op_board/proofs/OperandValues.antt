-- What an operation gets and gives.
use Rattle.std.proofs.Common.{◌≡◌, ◌<◌, ℕ, zero, suc, ◌+◌, ℤ, pos, true, false, List, [], ◌∷◌, length, map, Option, Some, None, is_some, unwrap_or, slice_get, Result, Ok, Err, refl, ap, ◌∙◌, subst, arith}
use Rattle.std.proofs.lemmas.Bool.{and_from}
use Rattle.std.specs.List.{list_all}
use Rattle.op_table.specs.declared.Trap.{Trap}
use Rattle.op_table.specs.Operators.{applied}
use Rattle.f77_tree.specs.declared.programs.NameInfo.{NameInfo}
use Rattle.f77_tree.specs.Execution.{Memory, next_word}
use Rattle.op_board.specs.Operations.{Operand, Known, From, Work, Load, Operate, Store, Take, Write, Begin, Advance, DecideTruth, DecideSign, DecideNumber, DecideTrips, DecideFirst, gives_value}
use Rattle.op_board.specs.Effects.{Effect, operand_at, performed, result_given, taken_from, value_or_zero}
use Rattle.op_board.specs.OperationLists.{takes_by, takes_one}
use Rattle.op_board.specs.OperationNets.{OperationNet, first_operation}
use Rattle.op_board.specs.OperationTokens.{OperationTokens, value_at, is_given, operand_in}

-- ---- operands

takes_self : (j more : ℕ) → 0 < takes_one j j more
takes_self zero more = omega arith
takes_self (suc j) more = takes_self j more

takes_still : (o j more : ℕ) → 0 < more → 0 < takes_one o j more
takes_still zero zero more some = omega arith
takes_still zero (suc j) more some = some
takes_still (suc o) zero more some = some
takes_still (suc o) (suc j) more some = takes_still o j more some

module _ (x : OperationNet) (m : OperationTokens) (piece : ℕ) (values : List ℤ) where
  pub same_operands : (operands : List Operand) → ((j : ℕ) → 0 < takes_by operands j → value_at m (first_operation x piece + j) ≡ slice_get values j) → map (operand_in x m piece) operands ≡ map (operand_at values) operands
  same_operands [] same = refl
  same_operands (Known z ∷ operands) same = ap (λ rest. z ∷ rest) (same_operands operands same)
  same_operands (From number ∷ operands) same =
      ap (λ (o : Option ℤ). unwrap_or o (pos 0) ∷ map (operand_in x m piece) operands) (same number (takes_self number (takes_by operands number)))
      ∙ ap (λ rest. unwrap_or (slice_get values number) (pos 0) ∷ rest) (same_operands operands (λ j some. same j (takes_still number j (takes_by operands j) some)))

  pub all_given : (operands : List Operand) → ((j : ℕ) → 0 < takes_by operands j → is_some (value_at m (first_operation x piece + j)) ≡ true) → list_all (is_given x m piece) operands ≡ true
  all_given [] each = refl
  all_given (Known z ∷ operands) each = all_given operands each
  all_given (From number ∷ operands) each = and_from (is_some (value_at m (first_operation x piece + number))) (list_all (is_given x m piece) operands) (each number (takes_self number (takes_by operands number))) (all_given operands (λ j some. each j (takes_still number j (takes_by operands j) some)))

pub is_some_at : (values : List ℤ) (j : ℕ) → j < length values → is_some (slice_get values j) ≡ true
is_some_at [] j low = absurd (omega (arith, low))
is_some_at (v ∷ values) zero low = refl
is_some_at (v ∷ values) (suc j) low = is_some_at values j (omega (arith, low))

-- ---- effects

abbrev ok_of : Effect → Result Effect Trap
ok_of e = Ok e

pub same_ok : (a b : Effect) → ok_of a ≡ ok_of b → a ≡ b
same_ok a b e = cc

-- the effect gives a value, and tells nothing else
pub record IsGiving (effect : Effect) : Type 0 where
  pub value : effect.value ≡ Some (value_or_zero effect.value)
  pub text : effect.text ≡ []
  pub choice : effect.choice ≡ 0

module _ (names : List NameInfo) (input : List ℤ) (m : Memory) (e : Effect) where
  given_one : (r : Result ℤ Trap) → result_given m r ≡ Ok e → IsGiving e
  given_one (Ok z) is = subst (λ (o : Effect). IsGiving o) (same_ok (record { value = Some z; memory = m; text = []; choice = 0 }) e is) (record { value = refl; text = refl; choice = refl })
  given_one (Err trap) is = absurd cc

  taken_one : (o : Option ℤ) → taken_from m o ≡ Ok e → IsGiving e
  taken_one None is = absurd cc
  taken_one (Some z) is = subst (λ (o : Effect). IsGiving o) (same_ok (record { value = Some z; memory = record m { taken = suc m.taken }; text = []; choice = 0 }) e is) (record { value = refl; text = refl; choice = refl })

  of_ok : (P : Effect → Type 0) (o : Effect) → ok_of o ≡ Ok e → P o → P e
  of_ok P o is p = subst P (same_ok o e is) p

  pub gives_one : (work : Work) (args : List ℤ) → gives_value work ≡ true → performed names input m work args ≡ Ok e → IsGiving e
  gives_one (Load name subs) args gives is = of_ok IsGiving _ is (record { value = refl; text = refl; choice = refl })
  gives_one (Operate op) args gives is = given_one (applied op args) is
  gives_one Take args gives is = taken_one (next_word input m) is
  gives_one (Store name subs) args gives is = absurd cc
  gives_one (Write items) args gives is = absurd cc
  gives_one (Begin loop_no var) args gives is = absurd cc
  gives_one (Advance loop_no var) args gives is = absurd cc
  gives_one DecideTruth args gives is = absurd cc
  gives_one DecideSign args gives is = absurd cc
  gives_one (DecideNumber count) args gives is = absurd cc
  gives_one (DecideTrips loop_no) args gives is = absurd cc
  gives_one DecideFirst args gives is = absurd cc

  pub gives_none : (work : Work) (args : List ℤ) → gives_value work ≡ false → performed names input m work args ≡ Ok e → e.value ≡ None
  gives_none (Load name subs) args gives is = absurd cc
  gives_none (Operate op) args gives is = absurd cc
  gives_none Take args gives is = absurd cc
  gives_none (Store name subs) args gives is = of_ok (λ o. o.value ≡ None) _ is refl
  gives_none (Write items) args gives is = of_ok (λ o. o.value ≡ None) _ is refl
  gives_none (Begin loop_no var) args gives is = of_ok (λ o. o.value ≡ None) _ is refl
  gives_none (Advance loop_no var) args gives is = of_ok (λ o. o.value ≡ None) _ is refl
  gives_none DecideTruth args gives is = of_ok (λ o. o.value ≡ None) _ is refl
  gives_none DecideSign args gives is = of_ok (λ o. o.value ≡ None) _ is refl
  gives_none (DecideNumber count) args gives is = of_ok (λ o. o.value ≡ None) _ is refl
  gives_none (DecideTrips loop_no) args gives is = of_ok (λ o. o.value ≡ None) _ is refl
  gives_none DecideFirst args gives is = of_ok (λ o. o.value ≡ None) _ is refl
