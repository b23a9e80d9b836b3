-- Which values take a word of the data.
use Rattle.std.proofs.Common.{◌≡◌, ℕ, zero, suc, ◌+◌, ◌<◌, ◌≤◌, ℤ, Bool, true, false, List, [], ◌∷◌, length, map, slice_get, ⊎_elim, arith, Option, None, Result, Ok, ap, sym, ◌∙◌, refl}
use Rattle.std.proofs.lemmas.Bool.{cases_lt}
use mathlib.Core.Former.{Count}
use Rattle.op_table.specs.declared.Op.{Op}
use Rattle.op_table.specs.declared.Trap.{Trap}
use Rattle.f77_tree.specs.declared.expressions.Expr.{Expr, Apply, Row_of-Expr, end_of-Expr, more_of-Expr, items-the_row-Expr, items_hidden-the_row-Expr-0}
use Rattle.f77_tree.specs.declared.expressions.Expr.TheVariants.{Const, Truth, Input, Read', Apply'}
use Rattle.f77_tree.specs.declared.programs.NameInfo.{NameInfo}
use Rattle.op_table.specs.Operators.{applied}
use Rattle.f77_tree.specs.Value.{value, row_values, value_before, all_values, and_then}
use Rattle.f77_tree.specs.Execution.{is_input, row_inputs, is_truth, count_if, words_taken}

abbrev row_of : Expr → (n : Count) × Row_of-Expr n
row_of (Apply' _ _ row) = (_, row)
row_of _ = (_, end_of-Expr)

row_inputs-items : (n : _) (row : Row_of-Expr n) → row_inputs row ≡ map is_input (items-the_row-Expr n row)
row_inputs-items n end_of-Expr = refl
row_inputs-items n (more_of-Expr e rest) = ap (λ rs. is_input e ∷ rs) (row_inputs-items _ rest)

-- over the list of operands
pub words_taken_apply : (op : Op) (args : List Expr) → words_taken (Apply op args) ≡ count_if (is_truth op) (map is_input args)
words_taken_apply op args =
    let row = row_of (Apply op args) in
    ap (λ rs. count_if (is_truth op) rs) (row_inputs-items row.0 row.1 ∙ ap (map is_input) (items_hidden-the_row-Expr-0 args))

count_none : (b : Bool) → count_if b [] ≡ 0
count_none true = refl
count_none false = refl

count_other : (b : Bool) (bs : List Bool) → count_if b (false ∷ bs) ≡ 0
count_other true bs = refl
count_other false bs = refl

first_other : (op : Op) (names : List NameInfo) (store : List ℤ) (e : Expr) (values : Result (List ℤ) Trap) (bs : List Bool) (z : ℤ) → and_then (applied op) (value_before (value names store None e) values) ≡ Ok z → count_if (is_truth op) (is_input e ∷ bs) ≡ 0
first_other op names store (Const c) values bs z is = count_other (is_truth op) bs
first_other op names store (Truth b) values bs z is = count_other (is_truth op) bs
first_other op names store Input values bs z is = absurd cc
first_other op names store (Read' name shape subs) values bs z is = count_other (is_truth op) bs
first_other op names store (Apply' other shape args) values bs z is = count_other (is_truth op) bs

row_taken : {m : _} (op : Op) (names : List NameInfo) (store : List ℤ) (row : Row_of-Expr m) (z : ℤ) → and_then (applied op) (all_values (row_values names store None row)) ≡ Ok z → count_if (is_truth op) (row_inputs row) ≡ 0
row_taken op names store end_of-Expr z is = count_none (is_truth op)
row_taken op names store (more_of-Expr e rest) z is = first_other op names store e (all_values (row_values names store None rest)) (row_inputs rest) z is

none_taken : (names : List NameInfo) (store : List ℤ) (e : Expr) (z : ℤ) → value names store None e ≡ Ok z → words_taken e ≡ 0
none_taken names store (Const c) z is = refl
none_taken names store (Truth b) z is = refl
none_taken names store Input z is = absurd cc
none_taken names store (Read' name shape subs) z is = refl
none_taken names store (Apply' op shape args) z is = row_taken op names store args z is

-- a value that takes a word has none where none is left
pub taken_some : (names : List NameInfo) (store : List ℤ) (next : Option ℤ) (e : Expr) (z : ℤ) → value names store next e ≡ Ok z → next ≡ None → words_taken e ≡ 0
taken_some names store next e z is none = none_taken names store e z (ap (λ n. value names store n e) (sym none) ∙ is)

count_if_one : (b : Bool) (bs : List Bool) → count_if b bs ≤ 1
count_if_one true [] = omega arith
count_if_one true (true ∷ []) = omega arith
count_if_one true (true ∷ c ∷ bs) = omega arith
count_if_one true (false ∷ bs) = omega arith
count_if_one false bs = omega arith

words_taken-one : (e : Expr) → words_taken e ≤ 1
words_taken-one (Const c) = omega arith
words_taken-one (Truth b) = omega arith
words_taken-one Input = omega arith
words_taken-one (Read' name shape subs) = omega arith
words_taken-one (Apply' op shape args) = count_if_one (is_truth op) (row_inputs args)

slice_get-end : (xs : List ℤ) (k : ℕ) → length xs ≤ k → slice_get xs k ≡ None
slice_get-end [] k le = refl
slice_get-end (x ∷ xs) zero le = absurd (omega (arith, le))
slice_get-end (x ∷ xs) (suc k) le = slice_get-end xs k (omega (arith, le))

-- no more words are taken than there are
pub taken_within : (names : List NameInfo) (store input : List ℤ) (taken : ℕ) (e : Expr) (z : ℤ) → taken ≤ length input → value names store (slice_get input taken) e ≡ Ok z → taken + words_taken e ≤ length input
taken_within names store input taken e z le is =
    ⊎_elim
    (λ (lt : taken < length input). omega (arith, lt, words_taken-one e))
    (λ (end : length input ≤ taken). omega (arith, le, taken_some names store (slice_get input taken) e z is (slice_get-end input taken end)))
    (cases_lt taken (length input))
