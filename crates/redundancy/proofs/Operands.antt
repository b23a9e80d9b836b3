-- Operands and subscripts, as rows and as lists.
use Rattle.std.proofs.Common.{◌≡◌, ℕ, zero, suc, ◌<◌, ◌⊎◌, Bool, true, false, not, ◌==◌, ◌&&◌, ◌||◌, List, [], ◌∷◌, ◌++◌, length, get_or, map, All, Option, Some, None, Result, Ok, Err, ℤ, refl, sym, ap, ◌∙◌, subst, inl, inr, ⊎_elim, arith}
use Rattle.std.specs.Prelude.{◌↔◌, IsErr, IsTrue, flat_map}
use Rattle.std.specs.Option.{is_some, option_map, option_and_then}
use Rattle.std.specs.Result.{result_ok}
use Rattle.std.specs.List.{list_all, list_any}
use Rattle.std.proofs.lemmas.Bool.{false≢true, eqb-true, ne_eqb}
use mathlib.Core.Former.{Count}
use Rattle.op_table.specs.declared.Op.{Op}
use Rattle.op_table.specs.declared.Trap.{Trap}
use Rattle.op_table.specs.Known.{all_known, folded, CanTrap, MayBe, MayAllBe}
use Rattle.op_table.specs.Operators.{applied, arity_of}
use Rattle.f77_tree.specs.declared.declarations.Dim.{Dim}
use Rattle.f77_tree.specs.declared.expressions.Access.{Access}
use Rattle.f77_tree.specs.declared.expressions.Expr.{Expr, Read, Read', Apply, Apply', Row_of-Expr, end_of-Expr, more_of-Expr, items-the_row-Expr, items_hidden-the_row-Expr-0}
use Rattle.f77_tree.specs.declared.expressions.Expr.TheVariants.{Const, Truth, Input}
use Rattle.f77_tree.specs.declared.programs.NameInfo.{NameInfo}
use Rattle.f77_tree.specs.Known.{known, row_known, none, MayTrap, SomeMayTrap, SubscriptsMayTrap}
use Rattle.f77_tree.specs.Value.{row_length, dims_of, IsExpression, AllExpressions, IsAccess}
use Rattle.redundancy.specs.Candidates.{is_scalar, is_plain, are_plain, has_scalar, IsCandidate, subexpressions, row_subexpressions}
use Rattle.redundancy.specs.Collected.{all_plain, all_subexpressions}
use Rattle.std.proofs.lemmas.Bool.{and_parts}

-- the row after a list of operands or subscripts
abbrev pub row_of : Expr → (n : Count) × Row_of-Expr n
row_of (Read' _ _ row) = (_, row)
row_of (Apply' _ _ row) = (_, row)
row_of _ = (_, end_of-Expr)

-- ---- rows are lists

are_plain-items : (n : _) (row : Row_of-Expr n) → are_plain row ≡ list_all is_plain (items-the_row-Expr n row)
are_plain-items n end_of-Expr = refl
are_plain-items n (more_of-Expr e rest) = ap (λ b. is_plain e && b) (are_plain-items _ rest)

has_scalar-items : (n : _) (row : Row_of-Expr n) → has_scalar row ≡ list_any is_scalar (items-the_row-Expr n row)
has_scalar-items n end_of-Expr = refl
has_scalar-items n (more_of-Expr e rest) = ap (λ b. is_scalar e || b) (has_scalar-items _ rest)

row_known-items : (n : _) (row : Row_of-Expr n) → row_known row ≡ map known (items-the_row-Expr n row)
row_known-items n end_of-Expr = refl
row_known-items n (more_of-Expr e rest) = ap (λ ks. known e ∷ ks) (row_known-items _ rest)

row_subexpressions-items : (n : _) (row : Row_of-Expr n) → row_subexpressions row ≡ flat_map subexpressions (items-the_row-Expr n row)
row_subexpressions-items n end_of-Expr = refl
row_subexpressions-items n (more_of-Expr e rest) = ap (λ es. subexpressions e ++ es) (row_subexpressions-items _ rest)

row_length-items : (n : _) (row : Row_of-Expr n) → row_length row ≡ length (items-the_row-Expr n row)
row_length-items n end_of-Expr = refl
row_length-items n (more_of-Expr e rest) = ap suc (row_length-items _ rest)

All-cons : {X : Type 0} (P : X → Type 0) (x : X) (xs : List X) → P x → All P xs → (k : ℕ) (d : X) → k < length (x ∷ xs) → P (get_or (x ∷ xs) k d)
All-cons P x xs here all zero d lt = here
All-cons P x xs here all (suc k) d lt = all k d (omega (arith, lt))

AllExpressions-items : (names : List NameInfo) (n : _) (row : Row_of-Expr n) → AllExpressions names row → All (IsExpression names) (items-the_row-Expr n row)
AllExpressions-items names n end_of-Expr all = λ k d lt. absurd (omega (arith, lt))
AllExpressions-items names n (more_of-Expr e rest) all = All-cons (IsExpression names) e (items-the_row-Expr _ rest) all.0 (AllExpressions-items names _ rest all.1)

-- ---- expressions by their operands and subscripts

pub is_scalar-Read : (access : Access) → is_scalar (Read access) ≡ (length access.subs == 0)
is_scalar-Read access =
    let row = row_of (Read access) in
    ap (λ n. n == 0) (row_length-items row.0 row.1 ∙ ap length (items_hidden-the_row-Expr-0 access.subs))

pub known-Apply : (op : Op) (args : List Expr) → known (Apply op args) ≡ folded op (map known args)
known-Apply op args =
    let row = row_of (Apply op args) in
    ap (folded op) (row_known-items row.0 row.1 ∙ ap (map known) (items_hidden-the_row-Expr-0 args))

pub subexpressions-Apply : (op : Op) (args : List Expr) → subexpressions (Apply op args) ≡ all_subexpressions args ++ Apply op args ∷ []
subexpressions-Apply op args =
    let row = row_of (Apply op args) in
    ap (λ es. es ++ Apply op args ∷ []) (row_subexpressions-items row.0 row.1 ∙ ap all_subexpressions (items_hidden-the_row-Expr-0 args))

pub subexpressions-Read : (access : Access) → subexpressions (Read access) ≡ all_subexpressions access.subs ++ Read access ∷ []
subexpressions-Read access =
    let row = row_of (Read access) in
    ap (λ es. es ++ Read access ∷ []) (row_subexpressions-items row.0 row.1 ∙ ap all_subexpressions (items_hidden-the_row-Expr-0 access.subs))

pub IsExpression-operands : (names : List NameInfo) (op : Op) (args : List Expr) → IsExpression names (Apply op args) → All (IsExpression names) args
IsExpression-operands names op args is =
    let row = row_of (Apply op args) in
    subst (λ (es : List Expr). All (IsExpression names) es) (items_hidden-the_row-Expr-0 args) (AllExpressions-items names row.0 row.1 is.1)

pub IsExpression-arity : (names : List NameInfo) (op : Op) (args : List Expr) → IsExpression names (Apply op args) → length args ≡ arity_of op
IsExpression-arity names op args is =
    let row = row_of (Apply op args) in
    sym (row_length-items row.0 row.1 ∙ ap length (items_hidden-the_row-Expr-0 args)) ∙ is.0

pub IsExpression-subscripts : (names : List NameInfo) (access : Access) → IsExpression names (Read access) → All (IsExpression names) access.subs
IsExpression-subscripts names access is =
    let row = row_of (Read access) in
    subst (λ (es : List Expr). All (IsExpression names) es) (items_hidden-the_row-Expr-0 access.subs) (AllExpressions-items names row.0 row.1 is.2)

-- ---- what has a known value can't trap

abbrev HeadAndTail : Option ℤ → List (Option ℤ) → List ℤ → Type 0
HeadAndTail k ks xs = (x : ℤ) × (ys : List ℤ) × (k ≡ Some x) × (all_known ks ≡ Some ys) × (xs ≡ x ∷ ys)

some_same : {X : Type 0} (x y : X) → Some x ≡ Some y → x ≡ y
some_same x y e = cc

mapped : (x : ℤ) (o : Option (List ℤ)) (xs : List ℤ) → option_map (λ args. x ∷ args) o ≡ Some xs → (ys : List ℤ) × (o ≡ Some ys) × (xs ≡ x ∷ ys)
mapped x None xs e = absurd cc
mapped x (Some ys) xs e = (ys, refl, sym (some_same (x ∷ ys) xs e))

split_known : (k : Option ℤ) (ks : List (Option ℤ)) (xs : List ℤ) → all_known (k ∷ ks) ≡ Some xs → HeadAndTail k ks xs
split_known None ks xs e = absurd cc
split_known (Some x) ks xs e = let m = mapped x (all_known ks) xs e in (x, m.0, refl, m.1, m.2)

may_none : (k : Option ℤ) (ks : List (Option ℤ)) → MayAllBe (k ∷ ks) [] → ⊥
may_none k ks may = may

may_parts : (k : Option ℤ) (ks : List (Option ℤ)) (a : ℤ) (args : List ℤ) → MayAllBe (k ∷ ks) (a ∷ args) → MayBe k a × MayAllBe ks args
may_parts k ks a args may = may

may_be_known : (ks : List (Option ℤ)) (xs args : List ℤ) → all_known ks ≡ Some xs → MayAllBe ks args → args ≡ xs
may_be_known [] xs [] e may = some_same [] xs e
may_be_known [] xs (a ∷ args) e may = absurd may
may_be_known (k ∷ ks) xs [] e may = absurd (may_none k ks may)
may_be_known (k ∷ ks) xs (a ∷ args) e may =
    let s = split_known k ks xs e in
    let here : a ≡ s.0 = subst (λ o. MayBe o a) s.2 (may_parts k ks a args may).0 in
    let rest = may_be_known ks s.1 args s.3 (may_parts k ks a args may).1 in
    ap (λ x. x ∷ args) here ∙ ap (λ ys. s.0 ∷ ys) rest ∙ sym s.4

folded_parts : (op : Op) (o : Option (List ℤ)) (z : ℤ) → option_and_then (λ args. result_ok (applied op args)) o ≡ Some z → (xs : List ℤ) × (o ≡ Some xs) × (result_ok (applied op xs) ≡ Some z)
folded_parts op None z e = absurd cc
folded_parts op (Some xs) z e = (xs, refl, e)

not_err : (r : Result ℤ Trap) (z : ℤ) → result_ok r ≡ Some z → IsErr r → ⊥
not_err (Ok x) z e err = absurd (false≢true err)
not_err (Err t) z e err = cc

known_parts : (op : Op) (ks : List (Option ℤ)) (z : ℤ) → folded op ks ≡ Some z → (xs : List ℤ) × (all_known ks ≡ Some xs) × (result_ok (applied op xs) ≡ Some z)
unfolding folded
known_parts op ks z e = folded_parts op (all_known ks) z e

known_quiet : (op : Op) (ks : List (Option ℤ)) (z : ℤ) → folded op ks ≡ Some z → CanTrap op ks → ⊥
known_quiet op ks z e can =
    let parts = known_parts op ks z e in
    let same = may_be_known ks parts.0 can.args parts.1 can.words in
    not_err (applied op can.args) z (ap (λ xs. result_ok (applied op xs)) same ∙ parts.2) can.traps

mutual
  pub quiet : (names : List NameInfo) (e : Expr) (z : ℤ) → known e ≡ Some z → MayTrap names e → ⊥
  quiet names (Const x) z is may = may
  quiet names (Truth b) z is may = may
  quiet names Input z is may = cc
  quiet names (Read' name shape subs) z is may = cc
  quiet names (Apply' op shape args) z is (inl some) = let parts = known_parts op (row_known args) z is in row_quiet names _ args parts.0 parts.1 some
  quiet names (Apply' op shape args) z is (inr can) = known_quiet op (row_known args) z is can

  row_quiet : (names : List NameInfo) (n : _) (row : Row_of-Expr n) (xs : List ℤ) → all_known (row_known row) ≡ Some xs → SomeMayTrap none names row → ⊥
  row_quiet names n end_of-Expr xs is some = some
  row_quiet names n (more_of-Expr e rest) xs is (inl here) = let s = split_known (known e) (row_known rest) xs is in quiet names e s.0 s.2 here
  row_quiet names n (more_of-Expr e rest) xs is (inr later) = let s = split_known (known e) (row_known rest) xs is in row_quiet names _ rest s.1 s.3 later

-- ---- plain operands can't trap

some_of : (o : Option ℤ) → is_some o ≡ true → (z : ℤ) × (o ≡ Some z)
some_of None is = absurd (false≢true is)
some_of (Some z) is = (z, refl)

end_quiet : (names : List NameInfo) (dims : List Dim) (n : _) (row : Row_of-Expr n) → (row_length row == 0) ≡ true → SubscriptsMayTrap none names dims row → ⊥
end_quiet names dims n end_of-Expr is some = some
end_quiet names dims n (more_of-Expr e rest) is some = let none : suc (row_length rest) ≡ 0 = eqb-true (suc (row_length rest)) 0 is in absurd (omega (arith, none))

scalar_quiet : (names : List NameInfo) (e : Expr) → is_scalar e ≡ true → MayTrap names e → ⊥
scalar_quiet names (Const x) is may = may
scalar_quiet names (Truth b) is may = may
scalar_quiet names Input is may = absurd (false≢true is)
scalar_quiet names (Read' name shape subs) is may = end_quiet names (dims_of names name) _ subs is may
scalar_quiet names (Apply' op shape args) is may = absurd (false≢true is)

or_cases : (a b : Bool) → (a || b) ≡ true → (a ≡ true) ⊎ (b ≡ true)
or_cases true b is = inl refl
or_cases false b is = inr is

plain_quiet : (names : List NameInfo) (e : Expr) → is_plain e ≡ true → MayTrap names e → ⊥
plain_quiet names e is may = ⊎_elim
    (λ scalar. scalar_quiet names e scalar may)
    (λ has. let k = some_of (known e) has in quiet names e k.0 k.1 may)
    (or_cases (is_scalar e) (is_some (known e)) is)

plains_quiet : (names : List NameInfo) (n : _) (row : Row_of-Expr n) → are_plain row ≡ true → SomeMayTrap none names row → ⊥
plains_quiet names n end_of-Expr is some = some
plains_quiet names n (more_of-Expr e rest) is (inl here) = plain_quiet names e ((and_parts (is_plain e) (are_plain rest) is).0) here
plains_quiet names n (more_of-Expr e rest) is (inr later) = plains_quiet names _ rest ((and_parts (is_plain e) (are_plain rest) is).1) later

-- ---- candidates by their operands

pub candidate-Apply : (names : List NameInfo) (op : Op) (args : List Expr) → all_plain args ≡ true → list_any is_scalar args ≡ true → (CanTrap op (map known args) → ⊥) → IsCandidate names (Apply op args)
candidate-Apply names op args plain scalar safe =
    let row = row_of (Apply op args) in
    let items = items_hidden-the_row-Expr-0 args in
    let plain_row : are_plain row.1 ≡ true = are_plain-items row.0 row.1 ∙ ap (list_all is_plain) items ∙ plain in
    let scalar_row : has_scalar row.1 ≡ true = has_scalar-items row.0 row.1 ∙ ap (list_any is_scalar) items ∙ scalar in
    let known_row : row_known row.1 ≡ map known args = row_known-items row.0 row.1 ∙ ap (map known) items in
    (plain_row, scalar_row, ⊎_elim (λ some. plains_quiet names row.0 row.1 plain_row some) (λ can. safe (subst (CanTrap op) known_row can)))

pub Apply-candidate : (names : List NameInfo) (op : Op) (args : List Expr) → IsCandidate names (Apply op args) → (all_plain args ≡ true) × (list_any is_scalar args ≡ true) × (CanTrap op (map known args) → ⊥)
Apply-candidate names op args is =
    let row = row_of (Apply op args) in
    let items = items_hidden-the_row-Expr-0 args in (
      sym (are_plain-items row.0 row.1 ∙ ap (list_all is_plain) items) ∙ is.0,
      sym (has_scalar-items row.0 row.1 ∙ ap (list_any is_scalar) items) ∙ is.1,
      λ can. is.2 (inr (subst (CanTrap op) (sym (row_known-items row.0 row.1 ∙ ap (map known) items)) can)),
    )

-- a test for an empty list
pub empty_test : (r : Bool) (xs : List Expr) → IsTrue r ↔ (xs ≡ []) → r ≡ (length xs == 0)
empty_test r [] is = is.1 refl
empty_test true (x ∷ xs) is = let e = is.0 refl in absurd cc
empty_test false (x ∷ xs) is = sym (ne_eqb (suc (length xs)) 0 (omega arith))

-- what tests say of a candidate
pub told_yes : (op : Op) (args : List Expr) (values : List (Option ℤ)) (risk : Bool) → values ≡ map known args → all_plain args ≡ true → list_any is_scalar args ≡ true → IsTrue risk ↔ CanTrap op values → (names : List NameInfo) → IsTrue (not risk) ↔ IsCandidate names (Apply op args)
told_yes op args values true same plain scalar can names = (λ no. absurd (false≢true no), λ is. absurd ((Apply-candidate names op args is).2 (subst (CanTrap op) same (can.0 refl))))
told_yes op args values false same plain scalar can names = (λ yes. candidate-Apply names op args plain scalar (λ c. false≢true (can.1 (subst (CanTrap op) (sym same) c))), λ is. refl)

pub told_no : (op : Op) (args : List Expr) (test : Bool) → test ≡ false → (all_plain args ≡ false) ⊎ (list_any is_scalar args ≡ false) → (names : List NameInfo) → IsTrue test ↔ IsCandidate names (Apply op args)
told_no op args test fails why names = (
  λ yes. absurd (false≢true (sym fails ∙ yes)),
  λ is. let parts = Apply-candidate names op args is in absurd (⊎_elim (λ no. false≢true (sym no ∙ parts.0)) (λ no. false≢true (sym no ∙ parts.1)) why),
)

-- what is read is an access of the table
pub Read-access : (names : List NameInfo) (access : Access) → IsExpression names (Read access) → IsAccess names access
Read-access names access is =
    let row = row_of (Read access) in
    record {
      known = is.0;
      as_many = sym (row_length-items row.0 row.1 ∙ ap length (items_hidden-the_row-Expr-0 access.subs)) ∙ is.1;
      subscripts = IsExpression-subscripts names access is;
    }

items-AllExpressions : (names : List NameInfo) (n : _) (row : Row_of-Expr n) → All (IsExpression names) (items-the_row-Expr n row) → AllExpressions names row
items-AllExpressions names n end_of-Expr all = tt
items-AllExpressions names n (more_of-Expr e rest) all = (all 0 e (omega arith), items-AllExpressions names _ rest (λ k d lt. all (suc k) d (omega (arith, lt))))

-- an operator of as many operands as it takes
pub fits-Apply : (names : List NameInfo) (op : Op) (args : List Expr) → length args ≡ arity_of op → All (IsExpression names) args → IsExpression names (Apply op args)
fits-Apply names op args many all =
    let row = row_of (Apply op args) in
    let items = items_hidden-the_row-Expr-0 args in
    (row_length-items row.0 row.1 ∙ ap length items ∙ many, items-AllExpressions names row.0 row.1 (subst (λ (es : List Expr). All (IsExpression names) es) (sym items) all))
