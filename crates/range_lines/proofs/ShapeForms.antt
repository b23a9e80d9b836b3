-- A subscript is linear in a variable exactly where its shape is one of that variable.
use Rattle.std.proofs.Common.{◌≡◌, ℕ, ℤ, pos, neg_ℤ, Bool, true, false, if◌then◌else◌, ◌==◌, Option, Some, None, refl, sym, ap, subst, ◌∙◌}
use Rattle.std.specs.Prelude.{◌↔◌}
use Rattle.std.proofs.lemmas.Bool.{eqb-true, eq-eqb}
use Rattle.op_table.specs.declared.Op.{Op}
use Rattle.op_table.specs.declared.Op.TheVariants.{Add, Sub, Mul, Div, Pow, Neg, Lt, Le, Eq, Ne, Ge, Gt, Not, And, Or, Eqv, Neqv, Mod, Abs, Sign, Max, Min, Truth as Truth_of, Bound, Place, Three, Pick, Step, AddChecked, SubChecked, MulChecked, NegChecked, AbsChecked, PowChecked}
use Rattle.f77_tree.specs.declared.expressions.Expr.{Expr, Row_of-Expr, end_of-Expr, more_of-Expr}
use Rattle.f77_tree.specs.declared.expressions.Expr.TheVariants.{Const, Truth, Input, Read', Apply'}
use Rattle.f77_tree.specs.Known.{known}
use Rattle.loop_ranges.specs.Linear.{Linear, Operand, Variable, Number as Known, Other as Neither, of_known as operand_known, operand, row_operands, alone as linear_alone, sum as linear_sum, difference as linear_difference, product as linear_product, of_two, combined as linear_combined, linear_in}
use Rattle.range_lines.specs.declared.shapes.Shape.{Shape}
use Rattle.range_lines.specs.declared.shapes.Term.{Term}
use Rattle.range_lines.specs.declared.shapes.Term.TheVariants.{Name, Number, Other}
use Rattle.range_lines.specs.Shapes.{of_known, term_of, row_terms, alone, sum, difference, product, combined, of_operands, shape_of}

-- the shape of a linear form of this variable
abbrev pub shape_with : ℕ → Linear → Shape
shape_with v form = record { variable = v; factor = form.factor; constant = form.constant }

module _ (v : ℕ) where
  -- the form is there exactly where the shape is
  abbrev pub Linked : Option Linear → Option Shape → Type 0
  Linked l s = (form : Linear) → (l ≡ Some form) ↔ (s ≡ Some (shape_with v form))

  -- what a term is, seen from the variable
  abbrev operand_of : Term → Operand
  operand_of (Name n) = if n == v then Variable else Neither
  operand_of (Number k) = Known k
  operand_of Other = Neither

  known-operand : (k : Option ℤ) → operand_known k ≡ operand_of (of_known k)
  known-operand None = refl
  known-operand (Some k) = refl

  operand-is : (e : Expr) → operand v e ≡ operand_of (term_of e)
  operand-is (Const z) = refl
  operand-is (Truth b) = refl
  operand-is Input = refl
  operand-is (Read' name shape subs) = refl
  operand-is (Apply' op shape args) = known-operand (known (Apply' op shape args))

  none-linked : Linked None None
  none-linked form = (λ is. let no : None ≡ Some form = is in absurd cc, λ is. let no : None ≡ Some (shape_with v form) = is in absurd cc)

  some-linked : (n : ℕ) (l : Linear) → (n == v) ≡ true → Linked (Some l) (Some (record { variable = n; factor = l.factor; constant = l.constant }))
  some-linked n l is form = (
    λ given. let same : l ≡ form = cc in ap (λ j. Some (record { variable = j; factor = l.factor; constant = l.constant })) (eqb-true n v is) ∙ ap (λ (f : Linear). Some (shape_with v f)) same,
    λ given. let same : record { variable = n; factor = l.factor; constant = l.constant } ≡ shape_with v form = cc in ap (λ (s : Shape). Some (record { factor = s.factor; constant = s.constant })) same,
  )

  other-linked : (n : ℕ) (l : Linear) → (n == v) ≡ false → Linked None (Some (record { variable = n; factor = l.factor; constant = l.constant }))
  other-linked n l is form = (
    λ given. let no : None ≡ Some form = given in absurd cc,
    λ given.
        let same : record { variable = n; factor = l.factor; constant = l.constant } ≡ shape_with v form = cc in
        let no : true ≡ false = sym (eq-eqb n v (ap (λ (s : Shape). s.variable) same)) ∙ is in
        absurd cc,
  )

  -- a name is the variable or not
  by_name : (n : ℕ) (f : Operand → Option Linear) (s : Option Shape) → ((n == v) ≡ true → Linked (f Variable) s) → ((n == v) ≡ false → Linked (f Neither) s) → Linked (f (operand_of (Name n))) s
  by_name n f s here there = by (n == v) refl
    where
      by : (b : Bool) → (n == v) ≡ b → Linked (f (if b then Variable else Neither)) s
      by true is = here is
      by false is = there is

  alone-linked : (x : Term) → Linked (linear_alone (operand_of x)) (alone x)
  alone-linked (Name n) = by_name n linear_alone (alone (Name n)) (λ is. some-linked n (record { factor = pos 1; constant = pos 0 }) is) (λ is. other-linked n (record { factor = pos 1; constant = pos 0 }) is)
  alone-linked (Number k) = none-linked
  alone-linked Other = none-linked

  sum-linked : (x y : Term) → Linked (linear_sum (operand_of x) (operand_of y)) (sum x y)
  sum-linked (Name n) (Name m) form = by_name n (λ x. linear_sum x (operand_of (Name m))) None (λ is. by_name m (λ y. linear_sum Variable y) None (λ is. none-linked) (λ is. none-linked)) (λ is. by_name m (λ y. linear_sum Neither y) None (λ is. none-linked) (λ is. none-linked)) form
  sum-linked (Name n) (Number j) form = by_name n (λ x. linear_sum x (Known j)) (sum (Name n) (Number j)) (λ is. some-linked n (record { factor = pos 1; constant = j }) is) (λ is. other-linked n (record { factor = pos 1; constant = j }) is) form
  sum-linked (Name n) Other form = by_name n (λ x. linear_sum x Neither) None (λ is. none-linked) (λ is. none-linked) form
  sum-linked (Number k) (Name m) form = by_name m (λ x. linear_sum (Known k) x) (sum (Number k) (Name m)) (λ is. some-linked m (record { factor = pos 1; constant = k }) is) (λ is. other-linked m (record { factor = pos 1; constant = k }) is) form
  sum-linked (Number k) (Number j) form = none-linked form
  sum-linked (Number k) Other form = none-linked form
  sum-linked Other (Name m) form = by_name m (λ y. linear_sum Neither y) None (λ is. none-linked) (λ is. none-linked) form
  sum-linked Other (Number j) form = none-linked form
  sum-linked Other Other form = none-linked form

  difference-linked : (x y : Term) → Linked (linear_difference (operand_of x) (operand_of y)) (difference x y)
  difference-linked (Name n) (Name m) form = by_name n (λ x. linear_difference x (operand_of (Name m))) None (λ is. by_name m (λ y. linear_difference Variable y) None (λ is. none-linked) (λ is. none-linked)) (λ is. by_name m (λ y. linear_difference Neither y) None (λ is. none-linked) (λ is. none-linked)) form
  difference-linked (Name n) (Number j) form = by_name n (λ x. linear_difference x (Known j)) (difference (Name n) (Number j)) (λ is. some-linked n (record { factor = pos 1; constant = neg_ℤ j }) is) (λ is. other-linked n (record { factor = pos 1; constant = neg_ℤ j }) is) form
  difference-linked (Name n) Other form = by_name n (λ x. linear_difference x Neither) None (λ is. none-linked) (λ is. none-linked) form
  difference-linked (Number k) (Name m) form = by_name m (λ y. linear_difference (Known k) y) None (λ is. none-linked) (λ is. none-linked) form
  difference-linked (Number k) (Number j) form = none-linked form
  difference-linked (Number k) Other form = none-linked form
  difference-linked Other (Name m) form = by_name m (λ y. linear_difference Neither y) None (λ is. none-linked) (λ is. none-linked) form
  difference-linked Other (Number j) form = none-linked form
  difference-linked Other Other form = none-linked form

  product-linked : (x y : Term) → Linked (linear_product (operand_of x) (operand_of y)) (product x y)
  product-linked (Name n) (Name m) form = by_name n (λ x. linear_product x (operand_of (Name m))) None (λ is. by_name m (λ y. linear_product Variable y) None (λ is. none-linked) (λ is. none-linked)) (λ is. by_name m (λ y. linear_product Neither y) None (λ is. none-linked) (λ is. none-linked)) form
  product-linked (Name n) (Number j) form = by_name n (λ x. linear_product x (Known j)) (product (Name n) (Number j)) (λ is. some-linked n (record { factor = j; constant = pos 0 }) is) (λ is. other-linked n (record { factor = j; constant = pos 0 }) is) form
  product-linked (Name n) Other form = by_name n (λ x. linear_product x Neither) None (λ is. none-linked) (λ is. none-linked) form
  product-linked (Number k) (Name m) form = by_name m (λ x. linear_product (Known k) x) (product (Number k) (Name m)) (λ is. some-linked m (record { factor = k; constant = pos 0 }) is) (λ is. other-linked m (record { factor = k; constant = pos 0 }) is) form
  product-linked (Number k) (Number j) form = none-linked form
  product-linked (Number k) Other form = none-linked form
  product-linked Other (Name m) form = by_name m (λ y. linear_product Neither y) None (λ is. none-linked) (λ is. none-linked) form
  product-linked Other (Number j) form = none-linked form
  product-linked Other Other form = none-linked form

  -- operators of either dialect
  two-linked : (op : Op) (x y : Term) → Linked (of_two op (operand_of x) (operand_of y)) (combined op x y)
  two-linked Add x y = sum-linked x y
  two-linked Sub x y = difference-linked x y
  two-linked Mul x y = product-linked x y
  two-linked Div x y = none-linked
  two-linked Pow x y = none-linked
  two-linked Neg x y = none-linked
  two-linked Lt x y = none-linked
  two-linked Le x y = none-linked
  two-linked Eq x y = none-linked
  two-linked Ne x y = none-linked
  two-linked Ge x y = none-linked
  two-linked Gt x y = none-linked
  two-linked Not x y = none-linked
  two-linked And x y = none-linked
  two-linked Or x y = none-linked
  two-linked Eqv x y = none-linked
  two-linked Neqv x y = none-linked
  two-linked Mod x y = none-linked
  two-linked Abs x y = none-linked
  two-linked Sign x y = none-linked
  two-linked Max x y = none-linked
  two-linked Min x y = none-linked
  two-linked Truth_of x y = none-linked
  two-linked Bound x y = none-linked
  two-linked Place x y = none-linked
  two-linked Three x y = none-linked
  two-linked Pick x y = none-linked
  two-linked Step x y = none-linked
  two-linked AddChecked x y = sum-linked x y
  two-linked SubChecked x y = difference-linked x y
  two-linked MulChecked x y = product-linked x y
  two-linked NegChecked x y = none-linked
  two-linked AbsChecked x y = none-linked
  two-linked PowChecked x y = none-linked

  row-linked : (op : Op) (n : _) (row : Row_of-Expr n) → Linked (linear_combined op (row_operands v row)) (of_operands op (row_terms row))
  row-linked op n end_of-Expr = none-linked
  row-linked op n (more_of-Expr a end_of-Expr) = none-linked
  row-linked op n (more_of-Expr a (more_of-Expr b end_of-Expr)) =
      subst (λ (x : Operand). Linked (of_two op x (operand v b)) (combined op (term_of a) (term_of b))) (sym (operand-is a))
      (subst (λ (y : Operand). Linked (of_two op (operand_of (term_of a)) y) (combined op (term_of a) (term_of b))) (sym (operand-is b)) (two-linked op (term_of a) (term_of b)))
  row-linked op n (more_of-Expr a (more_of-Expr b (more_of-Expr c rest))) = none-linked

  -- a subscript is linear in the variable exactly where its shape is one of that variable
  pub linear-linked : (e : Expr) → Linked (linear_in v e) (shape_of e)
  linear-linked (Const z) = none-linked
  linear-linked (Truth b) = none-linked
  linear-linked Input = none-linked
  linear-linked (Read' name shape subs) = alone-linked (Name name)
  linear-linked (Apply' op shape args) = row-linked op _ args
