-- What operators of either dialect give where the sum, the difference or the product is a word.
use Rattle.std.proofs.Common.{◌≡◌, ℤ, ◌+ℤ◌, ◌-ℤ◌, ◌*ℤ◌, [], ◌∷◌, Some, None, Ok, Err, ap, ◌∙◌, w32}
use Rattle.std.specs.Prelude.{if◌then◌else◌}
use Rattle.std.proofs.lemmas.Int.{int_wrap_fits}
use Rattle.op_table.specs.declared.Op.{Op}
use Rattle.op_table.specs.declared.Op.TheVariants.{Add, Sub, Mul, Div, Pow, Neg, Lt, Le, Eq, Ne, Ge, Gt, Not, And, Or, Eqv, Neqv, Mod, Abs, Sign, Max, Min, Truth, Bound, Place, Three, Pick, Step, AddChecked, SubChecked, MulChecked, NegChecked, AbsChecked, PowChecked}
use Rattle.op_table.specs.declared.Trap.TheVariants.{Overflow}
use Rattle.op_table.specs.Words.{IsWord, is_word}
use Rattle.op_table.specs.Operators.{applied, binary, in_a_word}
use Rattle.op_table.proofs.Rows.{word-is_word}
use Rattle.loop_ranges.specs.Linear.{Linear, Operand, sum, difference, product, of_two}

-- ---- operators at words whose sum, difference or product is a word

plain-sum : (a b : ℤ) → IsWord (a +ℤ b) → applied Add (a ∷ b ∷ []) ≡ Ok (a +ℤ b)
unfolding applied binary
plain-sum a b word = ap (λ z. Ok z) (int_wrap_fits w32 (a +ℤ b) word)

plain-difference : (a b : ℤ) → IsWord (a -ℤ b) → applied Sub (a ∷ b ∷ []) ≡ Ok (a -ℤ b)
unfolding applied binary
plain-difference a b word = ap (λ z. Ok z) (int_wrap_fits w32 (a -ℤ b) word)

plain-product : (a b : ℤ) → IsWord (a *ℤ b) → applied Mul (a ∷ b ∷ []) ≡ Ok (a *ℤ b)
unfolding applied binary
plain-product a b word = ap (λ z. Ok z) (int_wrap_fits w32 (a *ℤ b) word)

checked-word : (z : ℤ) → IsWord z → in_a_word (if is_word z then Ok z else Err Overflow) ≡ Ok z
checked-word z word = ap (λ b. in_a_word (if b then Ok z else Err Overflow)) (word-is_word z word) ∙ ap (λ x. Ok x) (int_wrap_fits w32 z word)

checked-sum : (a b : ℤ) → IsWord (a +ℤ b) → applied AddChecked (a ∷ b ∷ []) ≡ Ok (a +ℤ b)
unfolding applied binary
checked-sum a b word = checked-word (a +ℤ b) word

checked-difference : (a b : ℤ) → IsWord (a -ℤ b) → applied SubChecked (a ∷ b ∷ []) ≡ Ok (a -ℤ b)
unfolding applied binary
checked-difference a b word = checked-word (a -ℤ b) word

checked-product : (a b : ℤ) → IsWord (a *ℤ b) → applied MulChecked (a ∷ b ∷ []) ≡ Ok (a *ℤ b)
unfolding applied binary
checked-product a b word = checked-word (a *ℤ b) word

-- ---- the operator of a form of two operands

module _ (x y : Operand) (form : Linear) where
  pub data Does (op : Op) : Type 0 where
    Sums : sum x y ≡ Some form → ((a b : ℤ) → IsWord (a +ℤ b) → applied op (a ∷ b ∷ []) ≡ Ok (a +ℤ b)) → Does op
    Differences : difference x y ≡ Some form → ((a b : ℤ) → IsWord (a -ℤ b) → applied op (a ∷ b ∷ []) ≡ Ok (a -ℤ b)) → Does op
    Products : product x y ≡ Some form → ((a b : ℤ) → IsWord (a *ℤ b) → applied op (a ∷ b ∷ []) ≡ Ok (a *ℤ b)) → Does op

  pub does : (op : Op) → of_two op x y ≡ Some form → Does op
  does Add is = Sums is (λ a b word. plain-sum a b word)
  does Sub is = Differences is (λ a b word. plain-difference a b word)
  does Mul is = Products is (λ a b word. plain-product a b word)
  does Div is = let no : None ≡ Some form = is in absurd cc
  does Pow is = let no : None ≡ Some form = is in absurd cc
  does Neg is = let no : None ≡ Some form = is in absurd cc
  does Lt is = let no : None ≡ Some form = is in absurd cc
  does Le is = let no : None ≡ Some form = is in absurd cc
  does Eq is = let no : None ≡ Some form = is in absurd cc
  does Ne is = let no : None ≡ Some form = is in absurd cc
  does Ge is = let no : None ≡ Some form = is in absurd cc
  does Gt is = let no : None ≡ Some form = is in absurd cc
  does Not is = let no : None ≡ Some form = is in absurd cc
  does And is = let no : None ≡ Some form = is in absurd cc
  does Or is = let no : None ≡ Some form = is in absurd cc
  does Eqv is = let no : None ≡ Some form = is in absurd cc
  does Neqv is = let no : None ≡ Some form = is in absurd cc
  does Mod is = let no : None ≡ Some form = is in absurd cc
  does Abs is = let no : None ≡ Some form = is in absurd cc
  does Sign is = let no : None ≡ Some form = is in absurd cc
  does Max is = let no : None ≡ Some form = is in absurd cc
  does Min is = let no : None ≡ Some form = is in absurd cc
  does Truth is = let no : None ≡ Some form = is in absurd cc
  does Bound is = let no : None ≡ Some form = is in absurd cc
  does Place is = let no : None ≡ Some form = is in absurd cc
  does Three is = let no : None ≡ Some form = is in absurd cc
  does Pick is = let no : None ≡ Some form = is in absurd cc
  does Step is = let no : None ≡ Some form = is in absurd cc
  does AddChecked is = Sums is (λ a b word. checked-sum a b word)
  does SubChecked is = Differences is (λ a b word. checked-difference a b word)
  does MulChecked is = Products is (λ a b word. checked-product a b word)
  does NegChecked is = let no : None ≡ Some form = is in absurd cc
  does AbsChecked is = let no : None ≡ Some form = is in absurd cc
  does PowChecked is = let no : None ≡ Some form = is in absurd cc
