-- The operators of an expression, over lists of operands and subscripts; and in the plain dialect nothing overflows.
use Rattle.std.proofs.Common.{◌≡◌, ℕ, suc, ℤ, pos, negsuc, ◌-ℤ◌, ◌*ℤ◌, Bool, true, false, if◌then◌else◌, List, [], ◌∷◌, All, Option, Some, None, Result, Ok, Err, refl, sym, ap, subst}
use Rattle.std.specs.Prelude.{◌↔◌, int_div, ◌||◌, int_lt, nat_abs}
use Rattle.std.specs.Ordering.{int_eq}
use Rattle.op_table.specs.declared.Op.{Op}
use Rattle.op_table.specs.declared.Op.TheVariants.{Div, Pow, Mod, Bound, Place, Step, AddChecked, SubChecked, MulChecked, NegChecked, AbsChecked, PowChecked}
use Rattle.op_table.specs.declared.Trap.{Trap}
use Rattle.op_table.specs.declared.Trap.TheVariants.{Divide, Subscript, Step as NoStep, Overflow, Input as NoInput}
use Rattle.op_table.specs.Operators.{applied, unary, binary, ternary, in_a_word, power}
use Rattle.f77_tree.specs.declared.declarations.Dim.{Dim}
use Rattle.f77_tree.specs.declared.expressions.Access.{Access}
use Rattle.f77_tree.specs.declared.expressions.Expr.{Expr, Row_of-Expr, end_of-Expr, more_of-Expr, items-the_row-Expr, items_hidden-the_row-Expr-0}
use Rattle.f77_tree.specs.declared.expressions.Expr.TheVariants.{Const, Truth, Input, Read, Apply, Read', Apply'}
use Rattle.f77_tree.specs.declared.programs.NameInfo.{NameInfo}
use Rattle.f77_tree.specs.Dialects.{is_of_dialect, HasDialect, HaveDialect}
use Rattle.f77_tree.specs.Value.{value, row_values, all_values, value_before, and_then, moved, subscripted, extent, place, word_of, dims_of, place_of}
use Rattle.f77_tree.proofs.AllLemmas.{All-nil, All-cons, All-first, All-rest}
use Rattle.f77_tree.proofs.ExpressionLemmas.{row_of, row_values-list}

-- ---- rows are lists

have-items : (checked : Bool) (n : _) (row : Row_of-Expr n) → HaveDialect checked row → All (HasDialect checked) (items-the_row-Expr n row)
have-items checked n end_of-Expr have = All-nil (HasDialect checked)
have-items checked n (more_of-Expr e rest) have = All-cons (HasDialect checked) e (items-the_row-Expr _ rest) have.0 (have-items checked _ rest have.1)

items-have : (checked : Bool) (n : _) (row : Row_of-Expr n) → All (HasDialect checked) (items-the_row-Expr n row) → HaveDialect checked row
items-have checked n end_of-Expr all = tt
items-have checked n (more_of-Expr e rest) all =
    (All-first (HasDialect checked) e (items-the_row-Expr _ rest) all, items-have checked _ rest (All-rest (HasDialect checked) e (items-the_row-Expr _ rest) all))

-- an operator and its operands
pub Apply-dialect : (checked : Bool) (op : Op) (args : List Expr) → HasDialect checked (Apply op args) ↔ ((is_of_dialect checked op ≡ true) × All (HasDialect checked) args)
Apply-dialect checked op args =
    let row = row_of (Apply op args) in
    let items : items-the_row-Expr row.0 row.1 ≡ args = items_hidden-the_row-Expr-0 args in
    let all : List Expr → Type 0 = λ es. All (HasDialect checked) es in
    ((λ has. (has.0, subst all items (have-items checked row.0 row.1 has.1))), (λ both. (both.0, items-have checked row.0 row.1 (subst all (sym items) both.1))))

-- a read and its subscripts
pub Read-dialect : (checked : Bool) (access : Access) → HasDialect checked (Read access) ↔ All (HasDialect checked) access.subs
Read-dialect checked access =
    let row = row_of (Read access) in
    let items : items-the_row-Expr row.0 row.1 ≡ access.subs = items_hidden-the_row-Expr-0 access.subs in
    let all : List Expr → Type 0 = λ es. All (HasDialect checked) es in
    ((λ has. subst all items (have-items checked row.0 row.1 has)), (λ each. items-have checked row.0 row.1 (subst all (sym items) each)))

-- ---- results without overflow

pub record NoOverflow {A : Type 0} (r : Result A Trap) : Type 0 where
  pub never : r ≡ Err Overflow → ⊥

pub ok-plain : {A : Type 0} (x : A) → NoOverflow {A = A} (Ok x)
ok-plain x = record { never = λ e. let no : Ok x ≡ Err Overflow = e in absurd cc }

divide-plain : NoOverflow {A = ℤ} (Err Divide)
divide-plain = record { never = λ e. absurd cc }

subscript-plain : NoOverflow {A = ℤ} (Err Subscript)
subscript-plain = record { never = λ e. absurd cc }

step-plain : NoOverflow {A = ℤ} (Err NoStep)
step-plain = record { never = λ e. absurd cc }

input-plain : NoOverflow {A = ℤ} (Err NoInput)
input-plain = record { never = λ e. absurd cc }

pub and_then-plain : {A B : Type 0} (f : A → Result B Trap) (r : Result A Trap) → NoOverflow r → ((x : A) → NoOverflow (f x)) → NoOverflow (and_then f r)
and_then-plain f (Err trap) none each = record { never = λ e. let is : trap ≡ Overflow = cc in none.never (ap Err is) }
and_then-plain f (Ok x) none each = each x

word-plain : (r : Result ℤ Trap) → NoOverflow r → NoOverflow (in_a_word r)
word-plain (Err trap) none = none
word-plain (Ok z) none = ok-plain _

either-plain : (b : Bool) (r s : Result ℤ Trap) → NoOverflow r → NoOverflow s → NoOverflow (if b then r else s)
either-plain true r s first second = first
either-plain false r s first second = second

-- ---- operators of the plain dialect

step_value-plain : (a : ℤ) → NoOverflow (in_a_word (if int_eq a (pos 0) then Err NoStep else Ok a))
step_value-plain a = word-plain (if int_eq a (pos 0) then Err NoStep else Ok a) (either-plain (int_eq a (pos 0)) (Err NoStep) (Ok a) step-plain (ok-plain a))

divided-plain : (a b : ℤ) → NoOverflow (in_a_word (if int_eq b (pos 0) then Err Divide else Ok a))
divided-plain a b = word-plain (if int_eq b (pos 0) then Err Divide else Ok a) (either-plain (int_eq b (pos 0)) (Err Divide) (Ok a) divide-plain (ok-plain a))

unary-plain : (op : Op) (a : ℤ) → is_of_dialect false op ≡ true → NoOverflow (in_a_word (unary op a))
unfolding unary
unary-plain Step a is = step_value-plain a
unary-plain NegChecked a is = let no : false ≡ true = is in absurd cc
unary-plain AbsChecked a is = let no : false ≡ true = is in absurd cc
unary-plain _ a is = ok-plain _

binary-plain : (op : Op) (a b : ℤ) → is_of_dialect false op ≡ true → NoOverflow (in_a_word (binary op a b))
unfolding binary
binary-plain Div a b is = divided-plain (int_div a b) b
binary-plain Mod a b is = divided-plain (a -ℤ int_div a b *ℤ b) b
binary-plain Pow a (pos n) is = ok-plain _
binary-plain Pow a (negsuc n) is = divided-plain (int_div (pos 1) (power a (suc n))) (power a (suc n))
binary-plain AddChecked a b is = let no : false ≡ true = is in absurd cc
binary-plain SubChecked a b is = let no : false ≡ true = is in absurd cc
binary-plain MulChecked a b is = let no : false ≡ true = is in absurd cc
binary-plain PowChecked a b is = let no : false ≡ true = is in absurd cc
binary-plain _ a b is = ok-plain _

ternary-plain : (op : Op) (a b c : ℤ) → NoOverflow (in_a_word (ternary op a b c))
unfolding ternary
ternary-plain Bound v low high =
    word-plain (if int_lt v low || int_lt high v then Err Subscript else Ok (v -ℤ low))
    (either-plain (int_lt v low || int_lt high v) (Err Subscript) (Ok (v -ℤ low)) subscript-plain (ok-plain _))
ternary-plain _ a b c = ok-plain _

applied-plain : (op : Op) (args : List ℤ) → is_of_dialect false op ≡ true → NoOverflow (applied op args)
unfolding applied
applied-plain op [] is = ok-plain _
applied-plain op (a ∷ []) is = unary-plain op a is
applied-plain op (a ∷ b ∷ []) is = binary-plain op a b is
applied-plain op (a ∷ b ∷ c ∷ []) is = ternary-plain op a b c
applied-plain op (a ∷ b ∷ c ∷ d ∷ more) is = ok-plain _

-- ---- values

before-plain : (r : Result ℤ Trap) (rs : Result (List ℤ) Trap) → NoOverflow r → NoOverflow rs → NoOverflow (value_before r rs)
before-plain (Err trap) rs one more = record { never = λ e. let is : trap ≡ Overflow = cc in one.never (ap Err is) }
before-plain (Ok z) (Err trap) one more = more
before-plain (Ok z) (Ok zs) one more = ok-plain _

moved-plain : (size : ℤ) (dim : Dim) (p v : ℤ) → NoOverflow (moved size dim p v)
moved-plain size dim p v =
    and_then-plain (λ d. applied Place (p ∷ d ∷ size ∷ [])) (applied Bound (v ∷ dim.lo ∷ dim.hi ∷ [])) (applied-plain Bound (v ∷ dim.lo ∷ dim.hi ∷ []) refl) (λ d. applied-plain Place (p ∷ d ∷ size ∷ []) refl)

word-of-plain : (names : List NameInfo) (name : ℕ) (rs : List (Result ℤ Trap)) → NoOverflow (subscripted (dims_of names name) (pos 1) (pos (place_of names name)) rs) → NoOverflow (word_of names name rs)
word-of-plain names name rs none = and_then-plain (λ p. Ok (nat_abs p)) (subscripted (dims_of names name) (pos 1) (pos (place_of names name)) rs) none (λ p. ok-plain (nat_abs p))

module _ (names : List NameInfo) (store : List ℤ) (next : Option ℤ) where
  input-value : (o : Option ℤ) → NoOverflow (value names store o Input)
  input-value None = input-plain
  input-value (Some z) = ok-plain z

  mutual
    -- no value overflows
    pub value-plain : (e : Expr) → HasDialect false e → NoOverflow (value names store next e)
    value-plain (Const z) has = ok-plain _
    value-plain (Truth b) has = ok-plain _
    value-plain Input has = input-value next
    value-plain (Read' name shape subs) has =
        and_then-plain _ (word_of names name (row_values names store next subs))
        (word-of-plain names name (row_values names store next subs) (subscripts-plain (dims_of names name) (pos 1) (pos (place_of names name)) _ subs has)) (λ w. ok-plain _)
    value-plain (Apply' op shape args) has = and_then-plain (applied op) (all_values (row_values names store next args)) (row-plain _ args has.1) (λ xs. applied-plain op xs has.0)

    row-plain : (n : _) (row : Row_of-Expr n) → HaveDialect false row → NoOverflow (all_values (row_values names store next row))
    row-plain n end_of-Expr have = ok-plain _
    row-plain n (more_of-Expr e rest) have = before-plain (value names store next e) (all_values (row_values names store next rest)) (value-plain e have.0) (row-plain _ rest have.1)

    subscripts-plain : (dims : List Dim) (size p : ℤ) (n : _) (row : Row_of-Expr n) → HaveDialect false row → NoOverflow (subscripted dims size p (row_values names store next row))
    subscripts-plain [] size p n end_of-Expr have = ok-plain _
    subscripts-plain (dim ∷ dims) size p n end_of-Expr have = ok-plain _
    subscripts-plain [] size p n (more_of-Expr e rest) have = ok-plain _
    subscripts-plain (dim ∷ dims) size p n (more_of-Expr e rest) have =
        and_then-plain (λ q. subscripted dims (size *ℤ extent dim) q (row_values names store next rest)) (and_then (moved size dim p) (value names store next e))
        (and_then-plain (moved size dim p) (value names store next e) (value-plain e have.0) (λ v. moved-plain size dim p v))
        (λ q. subscripts-plain dims (size *ℤ extent dim) q _ rest have.1)

  pub place-plain : (access : Access) → All (HasDialect false) access.subs → NoOverflow (place names store next access)
  place-plain access each =
      let row = row_of (Read access) in
      subst (λ (rs : List (Result ℤ Trap)). NoOverflow (word_of names access.name rs)) (row_values-list names store next access)
      (word-of-plain names access.name (row_values names store next row.1)
      (subscripts-plain (dims_of names access.name) (pos 1) (pos (place_of names access.name)) row.0 row.1 ((Read-dialect false access).1 each)))

  -- in the plain dialect nothing overflows
  pub value-never : (e : Expr) → HasDialect false e → value names store next e ≡ Err Overflow → ⊥
  value-never e has = (value-plain e has).never
