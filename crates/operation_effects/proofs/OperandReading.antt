-- The values of operands, as they are read one by one.
use Rattle.std.proofs.Common.{◌≡◌, ◌<◌, ◌≤◌, ℕ, ℤ, map, zero, suc, pos, List, [], ◌∷◌, length, take, get_or, refl, sym, ap, ◌∙◌, arith}
use Rattle.std.proofs.lemmas.List.{length-map}
use Rattle.f77_tree.specs.Value.{word_at}
use Rattle.op_board.specs.Effects.{operand_at}
use Rattle.operation_lists.specs.Seen.{operand_seen}
use Rattle.operation_lists.specs.declared.operations.Operand.{Operand}
use Rattle.operation_effects.specs.OperandValues.{operand_values}

module _ (values : List ℤ) where
  pub value_there : (operands : List Operand) (k : ℕ) (d : Operand) → k < length operands → operand_at values (operand_seen (get_or operands k d)) ≡ word_at (operand_values values operands) k
  value_there [] k d low = absurd (omega (arith, low))
  value_there (operand ∷ operands) zero d low = refl
  value_there (operand ∷ operands) (suc k) d low = value_there operands k d (omega (arith, low))

  pub none_there : (operands : List Operand) (k : ℕ) → length operands ≤ k → pos 0 ≡ word_at (operand_values values operands) k
  none_there [] k past = refl
  none_there (operand ∷ operands) zero past = absurd (omega (arith, past))
  none_there (operand ∷ operands) (suc k) past = none_there operands k (omega (arith, past))

  pub value_count : (operands : List Operand) → length (operand_values values operands) ≡ length operands
  value_count operands = length-map (map operand_seen operands) (operand_at values) ∙ length-map operands operand_seen

-- of a list of at most three, each is read
first_three : (xs : List ℤ) (a b c : ℤ) → length xs ≤ 3 → a ≡ word_at xs 0 → b ≡ word_at xs 1 → c ≡ word_at xs 2 → take (length xs) (a ∷ b ∷ c ∷ []) ≡ xs
first_three [] a b c few first second third = refl
first_three (x ∷ []) a b c few first second third = ap (λ y. y ∷ []) first
first_three (x ∷ y ∷ []) a b c few first second third = ap (λ z. z ∷ b ∷ []) first ∙ ap (λ z. x ∷ z ∷ []) second
first_three (x ∷ y ∷ z ∷ []) a b c few first second third = ap (λ w. w ∷ b ∷ c ∷ []) first ∙ ap (λ w. x ∷ w ∷ c ∷ []) second ∙ ap (λ w. x ∷ y ∷ w ∷ []) third
first_three (x ∷ y ∷ z ∷ w ∷ xs) a b c few first second third = absurd (omega (arith, few))

pub three_read : (values : List ℤ) (operands : List Operand) (a b c : ℤ) → length operands ≤ 3 → a ≡ word_at (operand_values values operands) 0 → b ≡ word_at (operand_values values operands) 1 → c ≡ word_at (operand_values values operands) 2 → take (length operands) (a ∷ b ∷ c ∷ []) ≡ operand_values values operands
three_read values operands a b c few first second third =
    let count = value_count values operands in
    ap (λ n. take n (a ∷ b ∷ c ∷ [])) (sym count) ∙ first_three (operand_values values operands) a b c (omega (arith, count, few)) first second third
