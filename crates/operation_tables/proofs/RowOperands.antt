-- Which operands of an operation are values of others, and which of them come first.
use Rattle.std.proofs.Common.{◌≡◌, ◌<◌, ◌≤◌, ◌+◌, ℕ, ℤ, List, [], ◌∷◌, ◌++◌, length, get_or, map, take, refl, sym, ap, ◌∙◌, arith}
use Rattle.std.proofs.lemmas.List.{take_more}
use Rattle.op_board.specs.Operations as board
use Rattle.op_board.specs.OperationNets.{OperationNet}
use Rattle.op_board.specs.OperationTokens.{givers}
use Rattle.operation_lists.specs.declared.operations.Operand.{Operand}
use Rattle.operation_lists.specs.declared.operations.Operand.TheVariants.{Known, Node}
use Rattle.operation_lists.specs.Seen.{operand_seen}
use Rattle.operation_tables.specs.OperationRows.{first_three}

-- of at most three operands nothing else is taken
pub taken_three : (f : board.Operand → ℤ) (operands : List board.Operand) (count : ℕ) (args : List ℤ) → count ≡ length operands → count ≤ 3 → map f (first_three operands) ≡ args → take count args ≡ map f operands
taken_three f operands count args is few are =
    ap (λ n. take n args) is ∙ ap (take (length operands)) (sym are) ∙ by operands (let few' : length operands ≤ 3 = omega (arith, is, few) in few')
  where
    by : (os : List board.Operand) → length os ≤ 3 → take (length os) (map f (first_three os)) ≡ map f os
    by [] low = refl
    by (a ∷ []) low = refl
    by (a ∷ b ∷ []) low = refl
    by (a ∷ b ∷ d ∷ []) low = refl
    by (a ∷ b ∷ d ∷ e ∷ more) low = absurd (omega (arith, low))

module _ (x : OperationNet) (piece : ℕ) where
  abbrev pub others : List Operand → ℕ
  others operands = length (givers x piece (map operand_seen operands))

  others_last : (operands : List Operand) (last : Operand) → others (operands ++ last ∷ []) ≡ others operands + others (last ∷ [])
  others_last [] last = omega arith
  others_last (Known z ∷ operands) last = others_last operands last
  others_last (Node number ∷ operands) last = let r = others_last operands last in omega (arith, r)

  pub others_next : (operands : List Operand) (i : ℕ) (d : Operand) → i < length operands → others (take (i + 1) operands) ≡ others (take i operands) + others (get_or operands i d ∷ [])
  others_next operands i d inside = ap others (take_more operands i d inside) ∙ others_last (take i operands) (get_or operands i d)
