-- Expressions whose operands and subscripts stand in a sequence.
use Rattle.std.proofs.Common.{◌≡◌, ℕ, zero, suc, ◌+◌, ◌<◌, ◌≤◌, ℤ, List, [], ◌∷◌, ◌++◌, length, get_or, map, drop, Option, Result, Ok, Err, All, refl, sym, ap, subst, ◌∙◌, add-one, drop-cons, append_assoc, arith}
use mathlib.Core.Former.{Count}
use Rattle.op_table.specs.declared.Op.{Op}
use Rattle.op_table.specs.declared.Op.TheVariants.{Neg, Not, Abs, Truth, Three, Step, NegChecked, AbsChecked, Bound, Place}
use Rattle.op_table.specs.declared.Trap.{Trap}
use Rattle.op_table.specs.Operators.{arity_of, applied}
use Rattle.f77_tree.specs.declared.expressions.Access.{Access}
use Rattle.f77_tree.specs.declared.expressions.Expr.{Expr, Const, Truth as IsTruth, Input, Read, Read', Apply, Apply', Row_of-Expr, end_of-Expr, more_of-Expr, items-the_row-Expr, items_hidden-the_row-Expr-0}
use Rattle.f77_tree.specs.declared.programs.NameInfo.{NameInfo}
use Rattle.f77_tree.specs.Value.{value, row_values, row_length, value_before, all_values, and_then, place, word_of, read_of, IsExpression, AllExpressions, IsAccess}

-- ---- rows are lists

-- the row after a list of operands or subscripts
abbrev pub row_of : Expr → (n : Count) × Row_of-Expr n
row_of (Read' _ _ row) = (_, row)
row_of (Apply' _ _ row) = (_, row)
row_of _ = (_, end_of-Expr)

row_values-items : (names : List NameInfo) (store : List ℤ) (next : Option ℤ) (n : _) (row : Row_of-Expr n) → row_values names store next row ≡ map (value names store next) (items-the_row-Expr n row)
row_values-items names store next n end_of-Expr = refl
row_values-items names store next n (more_of-Expr e rest) = ap (λ rs. value names store next e ∷ rs) (row_values-items names store next _ rest)

pub row_length-items : (n : _) (row : Row_of-Expr n) → row_length row ≡ length (items-the_row-Expr n row)
row_length-items n end_of-Expr = refl
row_length-items n (more_of-Expr e rest) = ap suc (row_length-items _ rest)

-- the values of subscripts, over the row or over the list
pub row_values-list : (names : List NameInfo) (store : List ℤ) (next : Option ℤ) (access : Access) → row_values names store next (row_of (Read access)).1 ≡ map (value names store next) access.subs
row_values-list names store next access =
    let row = row_of (Read access) in
    row_values-items names store next row.0 row.1 ∙ ap (map (value names store next)) (items_hidden-the_row-Expr-0 access.subs)

-- ---- values

-- an operator's value, over the list of its operands
pub value-Apply : (names : List NameInfo) (store : List ℤ) (next : Option ℤ) (op : Op) (args : List Expr) → value names store next (Apply op args) ≡ and_then (applied op) (all_values (map (value names store next) args))
value-Apply names store next op args =
    let row = row_of (Apply op args) in
    ap (λ rs. and_then (applied op) (all_values rs)) (row_values-items names store next row.0 row.1 ∙ ap (map (value names store next)) (items_hidden-the_row-Expr-0 args))

-- what is read of a name, at the word that the access names
pub value-Read : (names : List NameInfo) (store : List ℤ) (next : Option ℤ) (access : Access) → value names store next (Read access) ≡ read_of names store access.name (place names store next access)
value-Read names store next access =
    ap (λ rs. read_of names store access.name (word_of names access.name rs)) (row_values-list names store next access)

-- ---- expressions that fit the table

All-cons : {X : Type 0} (P : X → Type 0) (x : X) (xs : List X) → P x → All P xs → (k : ℕ) (d : X) → k < length (x ∷ xs) → P (get_or (x ∷ xs) k d)
All-cons P x xs here all zero d lt = here
All-cons P x xs here all (suc k) d lt = all k d (omega (arith, lt))

AllExpressions-items : (names : List NameInfo) (n : _) (row : Row_of-Expr n) → AllExpressions names row → All (IsExpression names) (items-the_row-Expr n row)
AllExpressions-items names n end_of-Expr all = λ k d lt. absurd (omega (arith, lt))
AllExpressions-items names n (more_of-Expr e rest) all = All-cons (IsExpression names) e (items-the_row-Expr _ rest) all.0 (AllExpressions-items names _ rest all.1)

pub All-at : {X : Type 0} (P : X → Type 0) (xs : List X) (k : ℕ) (x : X) → k < length xs → x ≡ get_or xs k x → All P xs → P x
All-at P xs k x lt is all = subst P (sym is) (all k x lt)

-- an operator has as many operands as it takes
pub IsExpression-arity : (names : List NameInfo) (op : Op) (args : List Expr) → IsExpression names (Apply op args) → length args ≡ arity_of op
IsExpression-arity names op args is =
    let row = row_of (Apply op args) in
    sym (row_length-items row.0 row.1 ∙ ap length (items_hidden-the_row-Expr-0 args)) ∙ is.0

-- each operand is an expression
pub IsExpression-operands : (names : List NameInfo) (op : Op) (args : List Expr) → IsExpression names (Apply op args) → All (IsExpression names) args
IsExpression-operands names op args is =
    let row = row_of (Apply op args) in
    subst (λ (es : List Expr). All (IsExpression names) es) (items_hidden-the_row-Expr-0 args) (AllExpressions-items names row.0 row.1 is.1)

-- what is read is an access of the table
pub IsExpression-access : (names : List NameInfo) (access : Access) → IsExpression names (Read access) → IsAccess names access
IsExpression-access names access is =
    let row = row_of (Read access) in
    record {
      known = is.0;
      as_many = sym (row_length-items row.0 row.1 ∙ ap length (items_hidden-the_row-Expr-0 access.subs)) ∙ is.1;
      subscripts = subst (λ (es : List Expr). All (IsExpression names) es) (items_hidden-the_row-Expr-0 access.subs) (AllExpressions-items names row.0 row.1 is.2);
    }

items-AllExpressions : (names : List NameInfo) (n : _) (row : Row_of-Expr n) → All (IsExpression names) (items-the_row-Expr n row) → AllExpressions names row
items-AllExpressions names n end_of-Expr all = tt
items-AllExpressions names n (more_of-Expr e rest) all = (all 0 e (omega arith), items-AllExpressions names _ rest (λ k d lt. all (suc k) d (omega (arith, lt))))

-- an operator at as many expressions as it takes is an expression
pub Apply-IsExpression : (names : List NameInfo) (op : Op) (args : List Expr) → length args ≡ arity_of op → All (IsExpression names) args → IsExpression names (Apply op args)
Apply-IsExpression names op args as_many all =
    let row = row_of (Apply op args) in
    let items = items_hidden-the_row-Expr-0 args in
    (row_length-items row.0 row.1 ∙ ap length items ∙ as_many, items-AllExpressions names row.0 row.1 (subst (λ (es : List Expr). All (IsExpression names) es) (sym items) all))

-- the read of an access is an expression
pub Read-IsExpression : (names : List NameInfo) (access : Access) → IsAccess names access → IsExpression names (Read access)
Read-IsExpression names access is =
    let row = row_of (Read access) in
    let items = items_hidden-the_row-Expr-0 access.subs in
    (is.known, row_length-items row.0 row.1 ∙ ap length items ∙ is.as_many, items-AllExpressions names row.0 row.1 (subst (λ (es : List Expr). All (IsExpression names) es) (sym items) is.subscripts))

pub arity_of-le : (op : Op) → arity_of op ≤ 3
arity_of-le Neg = omega arith
arity_of-le Not = omega arith
arity_of-le Abs = omega arith
arity_of-le Truth = omega arith
arity_of-le Three = omega arith
arity_of-le Step = omega arith
arity_of-le NegChecked = omega arith
arity_of-le AbsChecked = omega arith
arity_of-le Bound = omega arith
arity_of-le Place = omega arith
arity_of-le _ = omega arith

-- ---- operands one after another

-- the values of the first operands before those of the rest
abbrev pub values_after : List ℤ → Result (List ℤ) Trap → Result (List ℤ) Trap
values_after xs (Err trap) = Err trap
values_after xs (Ok ys) = Ok (xs ++ ys)

after_before : (xs : List ℤ) (y : ℤ) (more : Result (List ℤ) Trap) → values_after xs (value_before (Ok y) more) ≡ values_after (xs ++ y ∷ []) more
after_before xs y (Err trap) = refl
after_before xs y (Ok ys) = ap Ok (sym (append_assoc xs (y ∷ []) ys))

-- one operand more has a value
pub values_after-next : (f : Expr → Result ℤ Trap) (es : List Expr) (i : ℕ) (e : Expr) (xs : List ℤ) (y : ℤ) → i < length es → e ≡ get_or es i e → f e ≡ Ok y → values_after xs (all_values (map f (drop i es))) ≡ values_after (xs ++ y ∷ []) (all_values (map f (drop (i + 1) es)))
values_after-next f es i e xs y lt is was =
    rw (add-one, drop-cons es i e, ← is, was) (after_before xs y (all_values (map f (drop (suc i) es))))

pub values_after-none : (values : Result (List ℤ) Trap) → values_after [] values ≡ values
values_after-none (Err trap) = refl
values_after-none (Ok ys) = refl

-- ---- how much there is to evaluate

abbrev mutual
  pub weight : Expr → ℕ
  weight (Const z) = 0
  weight (IsTruth b) = 0
  weight Input = 0
  weight (Read' name shape subs) = suc (suc (row_weight subs))
  weight (Apply' op shape args) = suc (row_weight args)

  pub row_weight : {m : _} → Row_of-Expr m → ℕ
  row_weight end_of-Expr = 0
  row_weight (more_of-Expr e rest) = weight e + row_weight rest

abbrev pub weights : List Expr → ℕ
weights [] = 0
weights (e ∷ es) = weight e + weights es

row_weight-items : (n : _) (row : Row_of-Expr n) → row_weight row ≡ weights (items-the_row-Expr n row)
row_weight-items n end_of-Expr = refl
row_weight-items n (more_of-Expr e rest) = ap (λ k. weight e + k) (row_weight-items _ rest)

pub weight-Read : (access : Access) → weight (Read access) ≡ suc (suc (weights access.subs))
weight-Read access =
    let row = row_of (Read access) in
    ap (λ k. suc (suc k)) (row_weight-items row.0 row.1 ∙ ap weights (items_hidden-the_row-Expr-0 access.subs))

pub weight-Apply : (op : Op) (args : List Expr) → weight (Apply op args) ≡ suc (weights args)
weight-Apply op args =
    let row = row_of (Apply op args) in
    ap suc (row_weight-items row.0 row.1 ∙ ap weights (items_hidden-the_row-Expr-0 args))

pub weight-at : (es : List Expr) (k : ℕ) (e : Expr) → k < length es → e ≡ get_or es k e → weight e ≤ weights es
weight-at [] k e lt is = absurd (omega (arith, lt))
weight-at (x ∷ es) zero e lt is = let same = ap weight is in omega (arith, same)
weight-at (x ∷ es) (suc k) e lt is = let rest = weight-at es k e (omega (arith, lt)) is in omega (arith, rest)
