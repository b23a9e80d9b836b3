-- The value of a subscript that is linear in a variable.
use Rattle.std.proofs.Common.{◌≡◌, ℕ, ℤ, pos, neg_ℤ, nat_abs, ◌+ℤ◌, ◌-ℤ◌, ◌*ℤ◌, Bool, true, false, if◌then◌else◌, ◌==◌, List, [], ◌∷◌, Option, Some, None, Result, Ok, refl, sym, ap, subst, ◌∙◌, arith}
use Rattle.std.proofs.lemmas.Bool.{eqb-true}
use Rattle.std.proofs.lemmas.Int.{ints}
use Rattle.std.proofs.Math.IntN.{*ℤ_comm}
use Rattle.op_table.specs.declared.Op.{Op}
use Rattle.op_table.specs.declared.Trap.{Trap}
use Rattle.op_table.specs.Words.{IsWord}
use Rattle.op_table.specs.Operators.{applied}
use Rattle.f77_tree.specs.declared.declarations.Kind.TheVariants.{Integer}
use Rattle.f77_tree.specs.declared.expressions.Expr.{Expr, Row_of-Expr, end_of-Expr, more_of-Expr}
use Rattle.f77_tree.specs.declared.expressions.Expr.TheVariants.{Const, Truth, Input, Read', Apply'}
use Rattle.f77_tree.specs.declared.programs.NameInfo.{NameInfo}
use Rattle.f77_tree.specs.Known.{known}
use Rattle.f77_tree.specs.Value.{value, row_values, all_values, and_then, kind_of, dims_of, place_of, word_at, read_as, read_of, word_of, subscripted}
use Rattle.f77_tree.proofs.Safety.{known-is}
use Rattle.loop_ranges.specs.Linear.{Linear, linear_at, Operand, Variable, Number, Other, of_known, operand, row_operands, alone, sum, difference, product, of_two, combined, linear_in}
use Rattle.loop_ranges.proofs.Arithmetic.{Does, Sums, Differences, Products, does}

no_dimensions : (size p : ℤ) (values : List (Result ℤ Trap)) → subscripted [] size p values ≡ Ok p
no_dimensions size p [] = refl
no_dimensions size p (value ∷ values) = refl

-- over a store in which an integer scalar has the value v
module _ (names : List NameInfo) (store : List ℤ) (next : Option ℤ) (variable : ℕ) (v : ℤ)
    (integer : kind_of names variable ≡ Integer) (scalar : dims_of names variable ≡ []) (is_v : word_at store (place_of names variable) ≡ v) where
  -- ---- operands

  -- what is told of an operand is so of its value
  abbrev OperandIs : Operand → Result ℤ Trap → Type 0
  OperandIs Variable r = r ≡ Ok v
  OperandIs (Number k) r = r ≡ Ok k
  OperandIs Other r = Unit {0}

  scalar_word : (values : List (Result ℤ Trap)) → word_of names variable values ≡ Ok (place_of names variable)
  scalar_word values =
      ap (λ dims. and_then (λ p. Ok (nat_abs p)) (subscripted dims (pos 1) (pos (place_of names variable)) values)) scalar
      ∙ ap (and_then (λ p. Ok (nat_abs p))) (no_dimensions (pos 1) (pos (place_of names variable)) values)

  scalar_read : (values : List (Result ℤ Trap)) → read_of names store variable (word_of names variable values) ≡ Ok v
  scalar_read values =
      ap (read_of names store variable) (scalar_word values)
      ∙ ap (λ kind. Ok (read_as kind (word_at store (place_of names variable)))) integer
      ∙ ap (λ z. Ok z) is_v

  known-operand : (e : Expr) → OperandIs (of_known (known e)) (value names store next e)
  known-operand e = by (known e) refl
    where
      by : (k : Option ℤ) → known e ≡ k → OperandIs (of_known k) (value names store next e)
      by None is = tt
      by (Some k) is = known-is names store next e k is

  pub operand-is : (e : Expr) → OperandIs (operand variable e) (value names store next e)
  operand-is (Read' name shape subs) = by (name == variable) refl
    where
      by : (b : Bool) → (name == variable) ≡ b → OperandIs (if b then Variable else Other) (value names store next (Read' name shape subs))
      by true is =
          let same : variable ≡ name = sym (eqb-true name variable is) in
          subst (λ k. read_of names store k (word_of names k (row_values names store next subs)) ≡ Ok v) same (scalar_read (row_values names store next subs))
      by false is = tt
  operand-is (Const z) = known-operand (Const z)
  operand-is (Truth b) = known-operand (Truth b)
  operand-is Input = known-operand Input
  operand-is (Apply' op shape args) = known-operand (Apply' op shape args)

  -- ---- forms

  -- two numbers whose sum, difference or product the form is
  record Gives (put : ℤ → ℤ → ℤ) (form : Linear) (r s : Result ℤ Trap) : Type 0 where
    a : ℤ
    b : ℤ
    is_a : r ≡ Ok a
    is_b : s ≡ Ok b
    is : put a b ≡ linear_at form v

  alone-is : (x : Operand) (form : Linear) (r : Result ℤ Trap) → OperandIs x r → alone x ≡ Some form → r ≡ Ok (linear_at form v)
  alone-is Variable form r at is =
      let same : record { factor = pos 1; constant = pos 0 } ≡ form = cc in
      at ∙ ap (λ z. Ok z) (let e : v ≡ pos 1 *ℤ v +ℤ pos 0 = omega (arith, ints) in e ∙ ap (λ (f : Linear). linear_at f v) same)
  alone-is (Number k) form r at is = let no : None ≡ Some form = is in absurd cc
  alone-is Other form r at is = let no : None ≡ Some form = is in absurd cc

  sum-gives : (x y : Operand) (form : Linear) (r s : Result ℤ Trap) → OperandIs x r → OperandIs y s → sum x y ≡ Some form → Gives (λ a b. a +ℤ b) form r s
  sum-gives Variable (Number k) form r s at also is =
      let same : record { factor = pos 1; constant = k } ≡ form = cc in
      let e : v +ℤ k ≡ pos 1 *ℤ v +ℤ k = omega (arith, ints) in
      record { a = v; b = k; is_a = at; is_b = also; is = e ∙ ap (λ (f : Linear). linear_at f v) same }
  sum-gives (Number k) Variable form r s at also is =
      let same : record { factor = pos 1; constant = k } ≡ form = cc in
      let e : k +ℤ v ≡ pos 1 *ℤ v +ℤ k = omega (arith, ints) in
      record { a = k; b = v; is_a = at; is_b = also; is = e ∙ ap (λ (f : Linear). linear_at f v) same }
  sum-gives Variable Variable form r s at also is = let no : None ≡ Some form = is in absurd cc
  sum-gives Variable Other form r s at also is = let no : None ≡ Some form = is in absurd cc
  sum-gives (Number k) (Number j) form r s at also is = let no : None ≡ Some form = is in absurd cc
  sum-gives (Number k) Other form r s at also is = let no : None ≡ Some form = is in absurd cc
  sum-gives Other Variable form r s at also is = let no : None ≡ Some form = is in absurd cc
  sum-gives Other (Number k) form r s at also is = let no : None ≡ Some form = is in absurd cc
  sum-gives Other Other form r s at also is = let no : None ≡ Some form = is in absurd cc

  difference-gives : (x y : Operand) (form : Linear) (r s : Result ℤ Trap) → OperandIs x r → OperandIs y s → difference x y ≡ Some form → Gives (λ a b. a -ℤ b) form r s
  difference-gives Variable (Number k) form r s at also is =
      let same : record { factor = pos 1; constant = neg_ℤ k } ≡ form = cc in
      let e : v -ℤ k ≡ pos 1 *ℤ v +ℤ neg_ℤ k = omega (arith, ints) in
      record { a = v; b = k; is_a = at; is_b = also; is = e ∙ ap (λ (f : Linear). linear_at f v) same }
  difference-gives (Number k) Variable form r s at also is = let no : None ≡ Some form = is in absurd cc
  difference-gives Variable Variable form r s at also is = let no : None ≡ Some form = is in absurd cc
  difference-gives Variable Other form r s at also is = let no : None ≡ Some form = is in absurd cc
  difference-gives (Number k) (Number j) form r s at also is = let no : None ≡ Some form = is in absurd cc
  difference-gives (Number k) Other form r s at also is = let no : None ≡ Some form = is in absurd cc
  difference-gives Other Variable form r s at also is = let no : None ≡ Some form = is in absurd cc
  difference-gives Other (Number k) form r s at also is = let no : None ≡ Some form = is in absurd cc
  difference-gives Other Other form r s at also is = let no : None ≡ Some form = is in absurd cc

  product-gives : (x y : Operand) (form : Linear) (r s : Result ℤ Trap) → OperandIs x r → OperandIs y s → product x y ≡ Some form → Gives (λ a b. a *ℤ b) form r s
  product-gives Variable (Number k) form r s at also is =
      let same : record { factor = k; constant = pos 0 } ≡ form = cc in
      let e : k *ℤ v ≡ k *ℤ v +ℤ pos 0 = omega (arith, ints) in
      record { a = v; b = k; is_a = at; is_b = also; is = *ℤ_comm v k ∙ e ∙ ap (λ (f : Linear). linear_at f v) same }
  product-gives (Number k) Variable form r s at also is =
      let same : record { factor = k; constant = pos 0 } ≡ form = cc in
      let e : k *ℤ v ≡ k *ℤ v +ℤ pos 0 = omega (arith, ints) in
      record { a = k; b = v; is_a = at; is_b = also; is = e ∙ ap (λ (f : Linear). linear_at f v) same }
  product-gives Variable Variable form r s at also is = let no : None ≡ Some form = is in absurd cc
  product-gives Variable Other form r s at also is = let no : None ≡ Some form = is in absurd cc
  product-gives (Number k) (Number j) form r s at also is = let no : None ≡ Some form = is in absurd cc
  product-gives (Number k) Other form r s at also is = let no : None ≡ Some form = is in absurd cc
  product-gives Other Variable form r s at also is = let no : None ≡ Some form = is in absurd cc
  product-gives Other (Number k) form r s at also is = let no : None ≡ Some form = is in absurd cc
  product-gives Other Other form r s at also is = let no : None ≡ Some form = is in absurd cc

  -- an operator that gives such a word at two operands
  given : (put : ℤ → ℤ → ℤ) (op : Op) (form : Linear) (r s : Result ℤ Trap) → Gives put form r s → IsWord (linear_at form v) → ((a b : ℤ) → IsWord (put a b) → applied op (a ∷ b ∷ []) ≡ Ok (put a b)) → and_then (applied op) (all_values (r ∷ s ∷ [])) ≡ Ok (linear_at form v)
  given put op form r s gives word so =
      ap (λ x. and_then (applied op) (all_values (x ∷ s ∷ []))) gives.is_a
      ∙ ap (λ x. and_then (applied op) (all_values (Ok gives.a ∷ x ∷ []))) gives.is_b
      ∙ so gives.a gives.b (subst IsWord (sym gives.is) word)
      ∙ ap (λ z. Ok z) gives.is

  two-are : (op : Op) (x y : Operand) (form : Linear) (r s : Result ℤ Trap) → OperandIs x r → OperandIs y s → of_two op x y ≡ Some form → IsWord (linear_at form v) → and_then (applied op) (all_values (r ∷ s ∷ [])) ≡ Ok (linear_at form v)
  two-are op x y form r s at also is word = by (does x y form op is)
    where
      by : Does x y form op → and_then (applied op) (all_values (r ∷ s ∷ [])) ≡ Ok (linear_at form v)
      by (Sums form_is so) = given (λ a b. a +ℤ b) op form r s (sum-gives x y form r s at also form_is) word so
      by (Differences form_is so) = given (λ a b. a -ℤ b) op form r s (difference-gives x y form r s at also form_is) word so
      by (Products form_is so) = given (λ a b. a *ℤ b) op form r s (product-gives x y form r s at also form_is) word so

  row-is : (op : Op) (n : _) (row : Row_of-Expr n) (form : Linear) → combined op (row_operands variable row) ≡ Some form → IsWord (linear_at form v) → and_then (applied op) (all_values (row_values names store next row)) ≡ Ok (linear_at form v)
  row-is op n end_of-Expr form is word = let no : None ≡ Some form = is in absurd cc
  row-is op n (more_of-Expr a end_of-Expr) form is word = let no : None ≡ Some form = is in absurd cc
  row-is op n (more_of-Expr a (more_of-Expr b end_of-Expr)) form is word = two-are op (operand variable a) (operand variable b) form (value names store next a) (value names store next b) (operand-is a) (operand-is b) is word
  row-is op n (more_of-Expr a (more_of-Expr b (more_of-Expr c rest))) form is word = let no : None ≡ Some form = is in absurd cc

  -- a subscript that is linear in the variable has its whole number as its value, where that is a word
  pub linear-is : (e : Expr) (form : Linear) → linear_in variable e ≡ Some form → IsWord (linear_at form v) → value names store next e ≡ Ok (linear_at form v)
  linear-is (Apply' op shape args) form is word = row-is op _ args form is word
  linear-is (Read' name shape subs) form is word = alone-is (operand variable (Read' name shape subs)) form (value names store next (Read' name shape subs)) (operand-is (Read' name shape subs)) is
  linear-is (Const z) form is word = let no : None ≡ Some form = is in absurd cc
  linear-is (Truth b) form is word = let no : None ≡ Some form = is in absurd cc
  linear-is Input form is word = let no : None ≡ Some form = is in absurd cc
