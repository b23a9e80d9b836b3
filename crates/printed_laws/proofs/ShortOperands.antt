-- The operands of an operation, one after another.
use Rattle.std.proofs.Common.{◌≡◌, ℕ, zero, suc, ◌+◌, ◌<◌, ◌≤◌, List, [], ◌∷◌, length, map, take, get_or, All, Some, slice_get, sym, subst, ⊎_elim, arith}
use Rattle.std.proofs.Math.Nat.{eq-or-lt_of_le, lt_of_lt_of_le}
use Rattle.std.proofs.lemmas.List.Elements.{All-more}
use Rattle.operation_lists.specs.declared.operations.Operand.{Operand as Given}
use Rattle.op_board.specs.Operations.{Operand, Known, From}
use Rattle.op_board.specs.OperationNets.{OperationNet, all_operation_nodes, first_operation, operation_node}
use Rattle.operation_tables.specs.Telling.{node_operand}
use Rattle.printed_laws.specs.ShortNet.{HasShortOperands, HaveShortOperandsBelow, IsShortGiven, IsShortOperand}

short_if_given : (x : OperationNet) (piece : ℕ) (o : Operand) → IsShortGiven (node_operand (first_operation x piece) o) → IsShortOperand x piece o
short_if_given x piece (From number) short = short
short_if_given x piece (Known z) short = short

given_at : (x : OperationNet) (piece : ℕ) (os : List Operand) (i : ℕ) (d : Operand) (result : Given) → i < length os → Some result ≡ slice_get (map (node_operand (first_operation x piece)) os) i → IsShortGiven result → IsShortOperand x piece (get_or os i d)
given_at x piece [] i d result lt is short = absurd (omega (arith, lt))
given_at x piece (o ∷ os) zero d result lt is short = let same : result ≡ node_operand (first_operation x piece) o = cc in short_if_given x piece o (subst IsShortGiven same short)
given_at x piece (o ∷ os) (suc i) d result lt is short = given_at x piece os i d result (omega (arith, lt)) is short

pub one_more_operand : (x : OperationNet) (piece : ℕ) (os : List Operand) (i : ℕ) (result : Given) → i < length os → Some result ≡ slice_get (map (node_operand (first_operation x piece)) os) i → IsShortGiven result → All (IsShortOperand x piece) (take i os) → All (IsShortOperand x piece) (take (i + 1) os)
one_more_operand x piece os i result lt is short before =
    let none : Operand = From 0 in
    All-more (IsShortOperand x piece) os i none lt before (given_at x piece os i none result lt is short)

up_to : (node k : ℕ) → node < k + 1 → node ≤ k
up_to node k lt = omega arith

pub one_more_node : (x : OperationNet) (k : ℕ) → HaveShortOperandsBelow x k → HasShortOperands x (operation_node x k) → HaveShortOperandsBelow x (k + 1)
one_more_node x k before short node lt =
    ⊎_elim
    (λ (last : node ≡ k). subst (λ n. HasShortOperands x (operation_node x n)) (sym last) short)
    (λ (low : node < k). before node low)
    (eq-or-lt_of_le (up_to node k lt))

pub all_nodes_short : (x : OperationNet) (k : ℕ) → HaveShortOperandsBelow x k → length (all_operation_nodes x) ≤ k → HaveShortOperandsBelow x (length (all_operation_nodes x))
all_nodes_short x k before end node lt = before node (lt_of_lt_of_le lt end)
