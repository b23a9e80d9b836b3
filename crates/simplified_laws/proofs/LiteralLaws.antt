-- Literals are expressions of a program, with the kind and the value that they are written for, and take few operations.
use Rattle.std.proofs.Common.{◌≡◌, ℕ, suc, ◌≤◌, ℤ, pos, negsuc, Bool, true, false, ◌==◌, if◌then◌else◌, List, [], ◌∷◌, Option, Ok, Err, refl, sym, ap, ◌∙◌, arith}
use Rattle.std.specs.Int.{w32}
use Rattle.std.proofs.lemmas.Int.{ints, int_wrap_fits}
use Rattle.std.proofs.lemmas.Bool.{eqb-true}
use Rattle.op_table.specs.declared.Trap.TheVariants.{Overflow}
use Rattle.op_table.specs.Operators.{applied, unary, binary, in_a_word}
use Rattle.op_table.specs.Words.{IsWord, is_true, truth}
use Rattle.op_table.proofs.Rows.{word-is_word}
use Rattle.f77_tree.specs.declared.declarations.Kind.{Kind}
use Rattle.f77_tree.specs.declared.declarations.Kind.TheVariants.{Integer, Logical}
use Rattle.f77_tree.specs.declared.expressions.Expr.{Const}
use Rattle.f77_tree.specs.declared.programs.NameInfo.{NameInfo}
use Rattle.f77_tree.specs.Line.{kind_of_expression}
use Rattle.f77_tree.specs.Operations.{operations}
use Rattle.f77_tree.specs.Value.{value, all_values, and_then}
use Rattle.f77_tree.proofs.ExpressionLemmas.{value-Apply}
use Rattle.f77_tree.proofs.OperationLaws.{operations-Apply}
use Rattle.simplified_forms.specs.Literals.{minus, difference, negative, least_literal, literal}

-- ---- kinds

module _ (names : List NameInfo) where
  pub negative-kind : (checked : Bool) (n : ℕ) → kind_of_expression names (negative checked n) ≡ Integer
  negative-kind true n = refl
  negative-kind false n = refl

  least_or-kind : (checked is_least : Bool) (n : ℕ) → kind_of_expression names (if is_least then least_literal checked else negative checked n) ≡ Integer
  least_or-kind true true n = refl
  least_or-kind false true n = refl
  least_or-kind checked false n = negative-kind checked n

  pub literal-kind : (checked : Bool) (kind : Kind) (z : ℤ) → kind_of_expression names (literal checked kind z) ≡ kind
  literal-kind checked Integer (pos n) = refl
  literal-kind checked Integer (negsuc n) = least_or-kind checked (n == 2147483647) (suc n)
  literal-kind checked Logical z = refl

-- ---- operations

negative-operations : (checked : Bool) (n : ℕ) → operations (negative checked n) ≡ 1
negative-operations checked n = let here = operations-Apply (minus checked) (Const (pos n) ∷ []) in omega (arith, here)

least-operations : (checked : Bool) → operations (least_literal checked) ≡ 2
least-operations checked =
    let here = operations-Apply (difference checked) (negative checked 2147483647 ∷ Const (pos 1) ∷ []) in
    let inner = negative-operations checked 2147483647 in
    omega (arith, here, inner)

least_or-operations : (checked is_least : Bool) (n : ℕ) → operations (if is_least then least_literal checked else negative checked n) ≤ 2
least_or-operations checked true n = let two = least-operations checked in omega (arith, two)
least_or-operations checked false n = let one = negative-operations checked n in omega (arith, one)

pub literal-operations : (checked : Bool) (kind : Kind) (z : ℤ) → operations (literal checked kind z) ≤ 2
literal-operations checked Integer (pos n) = omega arith
literal-operations checked Integer (negsuc n) = least_or-operations checked (n == 2147483647) (suc n)
literal-operations checked Logical z = omega arith

-- ---- values

-- a word that an operator gives stays as it is, in either dialect
negated : (checked : Bool) (n : ℕ) → IsWord (negsuc n) → applied (minus checked) (pos (suc n) ∷ []) ≡ Ok (negsuc n)
unfolding applied unary
negated false n word = ap (λ z. Ok z) (int_wrap_fits w32 (negsuc n) word)
negated true n word = ap (λ b. in_a_word (if b then Ok (negsuc n) else Err Overflow)) (word-is_word (negsuc n) word) ∙ ap (λ z. Ok z) (int_wrap_fits w32 (negsuc n) word)

least_word : IsWord (negsuc 2147483647)
least_word = omega (arith, ints)

subtracted : (checked : Bool) → applied (difference checked) (negsuc 2147483646 ∷ pos 1 ∷ []) ≡ Ok (negsuc 2147483647)
unfolding applied binary
subtracted false = ap (λ z. Ok z) (int_wrap_fits w32 (negsuc 2147483647) least_word)
subtracted true = ap (λ b. in_a_word (if b then Ok (negsuc 2147483647) else Err Overflow)) (word-is_word (negsuc 2147483647) least_word) ∙ ap (λ z. Ok z) (int_wrap_fits w32 (negsuc 2147483647) least_word)

module _ (names : List NameInfo) (store : List ℤ) (next : Option ℤ) where
  negative-value : (checked : Bool) (n : ℕ) → IsWord (negsuc n) → value names store next (negative checked (suc n)) ≡ Ok (negsuc n)
  negative-value checked n word = value-Apply names store next (minus checked) (Const (pos (suc n)) ∷ []) ∙ negated checked n word

  least-value : (checked : Bool) → value names store next (least_literal checked) ≡ Ok (negsuc 2147483647)
  least-value checked =
      let word : IsWord (negsuc 2147483646) = omega (arith, ints) in
      value-Apply names store next (difference checked) (negative checked 2147483647 ∷ Const (pos 1) ∷ [])
      ∙ ap (λ r. and_then (applied (difference checked)) (all_values (r ∷ Ok (pos 1) ∷ []))) (negative-value checked 2147483646 word)
      ∙ subtracted checked

  least_or-value : (checked is_least : Bool) (n : ℕ) → (is_least ≡ true → n ≡ 2147483647) → IsWord (negsuc n) → value names store next (if is_least then least_literal checked else negative checked (suc n)) ≡ Ok (negsuc n)
  least_or-value checked true n is word = least-value checked ∙ ap (λ k. Ok (negsuc k)) (sym (is refl))
  least_or-value checked false n is word = negative-value checked n word

  -- a word of a kind is the value of its literal
  pub literal-value : (checked : Bool) (kind : Kind) (z : ℤ) → IsWord z → (kind ≡ Logical → z ≡ truth (is_true z)) → value names store next (literal checked kind z) ≡ Ok z
  literal-value checked Integer (pos n) word truth_is = refl
  literal-value checked Integer (negsuc n) word truth_is = least_or-value checked (n == 2147483647) n (eqb-true n 2147483647) word
  literal-value checked Logical z word truth_is = ap (λ x. Ok x) (sym (truth_is refl))
