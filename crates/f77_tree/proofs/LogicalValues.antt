-- An expression that is a logical has 0 or 1, where it has a value.
use Rattle.std.proofs.Common.{◌≡◌, ℕ, ℤ, pos, Bool, true, false, List, [], ◌∷◌, ◌⊎◌, inl, inr, Option, Result, Ok, Err, refl, sym, ap, subst, ◌∙◌, w32}
use Rattle.std.specs.Prelude.{not, ◌&&◌, ◌||◌, int_lt, int_le}
use Rattle.std.specs.Bool.{beq}
use Rattle.std.specs.Ordering.{int_eq}
use Rattle.std.proofs.lemmas.Int.{int_wrap_fits}
use Rattle.op_table.specs.declared.Op.{Op}
use Rattle.op_table.specs.declared.Op.TheVariants.{Lt, Le, Eq, Ne, Ge, Gt, Not, And, Or, Eqv, Neqv, Truth as Truth_of}
use Rattle.op_table.specs.declared.Trap.{Trap}
use Rattle.op_table.specs.Words.{is_true, truth}
use Rattle.op_table.specs.Operators.{applied, unary, binary, ternary, in_a_word}
use Rattle.f77_tree.specs.declared.declarations.Kind.{Kind}
use Rattle.f77_tree.specs.declared.declarations.Kind.TheVariants.{Integer, Logical}
use Rattle.f77_tree.specs.declared.expressions.Expr.{Expr, Const, Truth as IsTruth, Input, Read', Apply'}
use Rattle.f77_tree.specs.declared.programs.NameInfo.{NameInfo}
use Rattle.f77_tree.specs.Line.{kind_of_op, kind_of_expression}
use Rattle.f77_tree.specs.Value.{value, row_values, all_values, and_then, read_of, read_as, kind_of, word_of, word_at}
use Rattle.f77_tree.proofs.Safety.{truth-word}

-- ---- operators

-- where there is a value, it is a truth
record IsTruthful (r : Result ℤ Trap) : Type 0 where
  same : (z : ℤ) → r ≡ Ok z → z ≡ truth (is_true z)

truth-again : (b : Bool) → truth b ≡ truth (is_true (truth b))
truth-again true = refl
truth-again false = refl

truth-same : (b : Bool) (z : ℤ) → truth b ≡ z → z ≡ truth (is_true z)
truth-same b z e = subst (λ (y : ℤ). y ≡ truth (is_true y)) e (truth-again b)

of_truth : (b : Bool) → IsTruthful (in_a_word (Ok (truth b)))
of_truth b = record {
  same = λ z e.
      let word : Ok (truth b) ≡ Ok z = ap (λ y. Ok y) (sym (int_wrap_fits w32 (truth b) (truth-word b))) ∙ e in
      let is : truth b ≡ z = cc in
      truth-same b z is;
}

unary-truthful : (op : Op) (a : ℤ) → kind_of_op op ≡ Logical → IsTruthful (in_a_word (unary op a))
unfolding unary
unary-truthful Lt a is = of_truth false
unary-truthful Le a is = of_truth false
unary-truthful Eq a is = of_truth false
unary-truthful Ne a is = of_truth false
unary-truthful Ge a is = of_truth false
unary-truthful Gt a is = of_truth false
unary-truthful Not a is = of_truth (not (is_true a))
unary-truthful And a is = of_truth false
unary-truthful Or a is = of_truth false
unary-truthful Eqv a is = of_truth false
unary-truthful Neqv a is = of_truth false
unary-truthful Truth_of a is = of_truth (is_true a)
unary-truthful _ a is = let no : Integer ≡ Logical = is in absurd cc

binary-truthful : (op : Op) (a b : ℤ) → kind_of_op op ≡ Logical → IsTruthful (in_a_word (binary op a b))
unfolding binary
binary-truthful Lt a b is = of_truth (int_lt a b)
binary-truthful Le a b is = of_truth (int_le a b)
binary-truthful Eq a b is = of_truth (int_eq a b)
binary-truthful Ne a b is = of_truth (not (int_eq a b))
binary-truthful Ge a b is = of_truth (int_le b a)
binary-truthful Gt a b is = of_truth (int_lt b a)
binary-truthful Not a b is = of_truth false
binary-truthful And a b is = of_truth (is_true a && is_true b)
binary-truthful Or a b is = of_truth (is_true a || is_true b)
binary-truthful Eqv a b is = of_truth (beq (is_true a) (is_true b))
binary-truthful Neqv a b is = of_truth (not (beq (is_true a) (is_true b)))
binary-truthful Truth_of a b is = of_truth false
binary-truthful _ a b is = let no : Integer ≡ Logical = is in absurd cc

ternary-truthful : (op : Op) (a b c : ℤ) → kind_of_op op ≡ Logical → IsTruthful (in_a_word (ternary op a b c))
unfolding ternary
ternary-truthful Lt a b c is = of_truth false
ternary-truthful Le a b c is = of_truth false
ternary-truthful Eq a b c is = of_truth false
ternary-truthful Ne a b c is = of_truth false
ternary-truthful Ge a b c is = of_truth false
ternary-truthful Gt a b c is = of_truth false
ternary-truthful Not a b c is = of_truth false
ternary-truthful And a b c is = of_truth false
ternary-truthful Or a b c is = of_truth false
ternary-truthful Eqv a b c is = of_truth false
ternary-truthful Neqv a b c is = of_truth false
ternary-truthful Truth_of a b c is = of_truth false
ternary-truthful _ a b c is = let no : Integer ≡ Logical = is in absurd cc

nothing-truthful : IsTruthful (Ok (pos 0))
nothing-truthful = record { same = λ z e. let is : pos 0 ≡ z = cc in truth-same false z is }

-- an operator that gives a truth, at any operands
applied-truthful : (op : Op) (args : List ℤ) → kind_of_op op ≡ Logical → IsTruthful (applied op args)
unfolding applied
applied-truthful op [] is = nothing-truthful
applied-truthful op (a ∷ []) is = unary-truthful op a is
applied-truthful op (a ∷ b ∷ []) is = binary-truthful op a b is
applied-truthful op (a ∷ b ∷ c ∷ []) is = ternary-truthful op a b c is
applied-truthful op (a ∷ b ∷ c ∷ d ∷ more) is = nothing-truthful

-- ---- expressions

operator-truth : (op : Op) (args : Result (List ℤ) Trap) (z : ℤ) → kind_of_op op ≡ Logical → and_then (applied op) args ≡ Ok z → z ≡ truth (is_true z)
operator-truth op (Err trap) z is e = let no : Err trap ≡ Ok z = e in absurd cc
operator-truth op (Ok args) z is e = (applied-truthful op args is).same z e

read-truth : (names : List NameInfo) (store : List ℤ) (name : ℕ) (at : Result ℕ Trap) (z : ℤ) → kind_of names name ≡ Logical → read_of names store name at ≡ Ok z → z ≡ truth (is_true z)
read-truth names store name (Err trap) z is e = let no : Err trap ≡ Ok z = e in absurd cc
read-truth names store name (Ok word) z is e =
    let read : read_as (kind_of names name) (word_at store word) ≡ z = cc in
    truth-same (is_true (word_at store word)) z (ap (λ (kind : Kind). read_as kind (word_at store word)) (sym is) ∙ read)

-- a logical that has a value has the word of a truth
pub value-truth : (names : List NameInfo) (store : List ℤ) (next : Option ℤ) (e : Expr) (z : ℤ) → kind_of_expression names e ≡ Logical → value names store next e ≡ Ok z → z ≡ truth (is_true z)
value-truth names store next (Const c) z is e = let no : Integer ≡ Logical = is in absurd cc
value-truth names store next (IsTruth b) z is e = let same : truth b ≡ z = cc in truth-same b z same
value-truth names store next Input z is e = let no : Integer ≡ Logical = is in absurd cc
value-truth names store next (Read' name shape subs) z is e = read-truth names store name (word_of names name (row_values names store next subs)) z is e
value-truth names store next (Apply' op shape args) z is e = operator-truth op (all_values (row_values names store next args)) z is e

-- the word of a truth is 0 or 1
pub truth-or : (b : Bool) (z : ℤ) → z ≡ truth b → (z ≡ pos 0) ⊎ (z ≡ pos 1)
truth-or true z e = inr e
truth-or false z e = inl e
