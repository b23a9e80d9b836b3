-- The lines of operands, as both sides write them.
use Rattle.std.proofs.Common.{◌≡◌, ℕ, ℤ, pos, negsuc, ◌+◌, ◌<◌, ◌≤◌, ◌^◌, List, [], ◌∷◌, ◌++◌, length, map, flat_map, codes, All, refl, ap, sym, ◌∙◌, subst, append-nil, arith}
use Rattle.std.proofs.Math.Nat.{lt_trans}
use Rattle.std.specs.Fmt.{decimal}
use Rattle.std.specs.List.{range_with_len}
use Rattle.std.proofs.lemmas.List.{length-map}
use Rattle.std.proofs.lemmas.List.Elements.{All-nil, All-cons, All-map, All-weaker}
use Rattle.std.proofs.lemmas.List.FromFn.{length-range_with_len}
use Rattle.op_table.specs.Words.{IsWord}
use Rattle.firing.specs.declared.system.NodeName.{NodeName}
use Rattle.firing.specs.declared.system.NodeName.TheVariants.{Act, Merge, Switch, Op}
use Rattle.op_board.specs.Operations.{Operand, Known, From}
use Rattle.op_board.specs.OperationNets.{OperationNet, all_operation_nodes, first_operation, operation_at, operation_node}
use Rattle.graph_texts.specs.GraphText.{operand_text, operands_line, value_lines, value_text}
use Rattle.printed_graphs.specs.declared.dataflow.Operand.{Operand as PrintedOperand}
use Rattle.printed_graphs.specs.declared.dataflow.Operand.TheVariants as operand
use Rattle.printed_graphs.specs.declared.dataflow.Value.{Value}
use Rattle.printed_graphs.specs.DataflowText as printed
use Rattle.printed_graphs.specs.Printable.{IsPrintableOperand, IsPrintableValue}
use Rattle.printed_laws.specs.ShortNet.{AreShortOperands, HasShortOperands, IsShortNet, IsShortOperand}
use Rattle.printed_laws.proofs.Lines.{each_below, each_of_parts, nested_parts, parts_most}
use Rattle.printed_laws.proofs.Rows.{vec_with, capped, capped_is, short_is_small}

abbrev pub operand_of : OperationNet → (piece : ℕ) → Operand → PrintedOperand
operand_of x piece (From number) = operand.From (first_operation x piece + number)
operand_of x piece (Known z) = operand.Known z

operand_same : (x : OperationNet) (piece : ℕ) (o : Operand) → printed.operand_text (operand_of x piece o) ≡ operand_text x piece o
operand_same x piece (From number) = refl
operand_same x piece (Known z) = refl

operands_same : (x : OperationNet) (piece : ℕ) (os : List Operand) → flat_map printed.operand_text (map (operand_of x piece) os) ≡ flat_map (operand_text x piece) os
operands_same x piece [] = refl
operands_same x piece (o ∷ os) =
    ap (λ l. l ++ flat_map printed.operand_text (map (operand_of x piece) os)) (operand_same x piece o)
    ∙ ap (λ r. operand_text x piece o ++ r) (operands_same x piece os)

-- a value, where there are operands
abbrev pub values_at : OperationNet → (k piece : ℕ) → List Operand → List Value
values_at x k piece [] = []
values_at x k piece (o ∷ os) = (record { node = k; operands = vec_with (map (operand_of x piece) (o ∷ os)) }) ∷ []

abbrev pub values_of : OperationNet → (k : ℕ) → NodeName → List Value
values_of x k (Op piece i) = values_at x k piece (operation_at x piece i).operands
values_of x k _ = []

operands_few : (x : OperationNet) (piece : ℕ) (os : List Operand) (top : ℕ) → length os < top → length (map (operand_of x piece) os) < top
operands_few x piece os top few = let same = length-map os (operand_of x piece) in omega (arith, few, same)

operands_kept : (x : OperationNet) (piece : ℕ) (os : List Operand) → length os < 2 ^ 63 → capped (map (operand_of x piece) os) ≡ map (operand_of x piece) os
operands_kept x piece os few = capped_is (map (operand_of x piece) os) (operands_few x piece os (2 ^ 63) few)

line_same : (x : OperationNet) (k piece : ℕ) (os : List Operand) → length os < 2 ^ 63 → flat_map printed.value_text (values_at x k piece os) ≡ operands_line x k piece os
line_same x k piece [] few = refl
line_same x k piece (o ∷ os) few =
    append-nil (codes "V " ++ decimal k ++ flat_map printed.operand_text (capped (map (operand_of x piece) (o ∷ os))) ++ (10 ∷ []))
    ∙ ap (λ shown. codes "V " ++ decimal k ++ flat_map printed.operand_text shown ++ (10 ∷ [])) (operands_kept x piece (o ∷ os) few)
    ∙ ap (λ text. codes "V " ++ decimal k ++ text ++ (10 ∷ [])) (operands_same x piece (o ∷ os))

value_same : (x : OperationNet) (k : ℕ) (name : NodeName) → HasShortOperands x name → flat_map printed.value_text (values_of x k name) ≡ value_text x k name
value_same x k (Op piece i) short = line_same x k piece (operation_at x piece i).operands (lt_trans short.few short_is_small)
value_same x k (Switch piece line) short = refl
value_same x k (Merge piece line) short = refl
value_same x k (Act piece) short = refl

abbrev pub values_told_of : OperationNet → List Value
values_told_of x = flat_map (λ k. values_of x k (operation_node x k)) (range_with_len 0 (length (all_operation_nodes x)))

pub values_told : (x : OperationNet) → IsShortNet x → flat_map printed.value_text (values_told_of x) ≡ value_lines x
values_told x short =
    nested_parts (λ k. k < length (all_operation_nodes x)) printed.value_text (λ k. values_of x k (operation_node x k)) (λ k. value_text x k (operation_node x k)) (range_with_len 0 (length (all_operation_nodes x)))
    (λ k lt. value_same x k (operation_node x k) (short.operands k lt))
    (each_below (length (all_operation_nodes x)))

-- ---- they can be read

one_at : (x : OperationNet) (k piece : ℕ) (os : List Operand) → length (values_at x k piece os) ≤ 1
one_at x k piece [] = omega arith
one_at x k piece (o ∷ os) = omega arith

one_of : (x : OperationNet) (k : ℕ) (name : NodeName) → length (values_of x k name) ≤ 1
one_of x k (Op piece i) = one_at x k piece (operation_at x piece i).operands
one_of x k (Switch piece line) = omega arith
one_of x k (Merge piece line) = omega arith
one_of x k (Act piece) = omega arith

pub values_few : (x : OperationNet) (top : ℕ) → length (all_operation_nodes x) < top → length (values_told_of x) < top
values_few x top few =
    let most = parts_most (λ k. values_of x k (operation_node x k)) (range_with_len 0 (length (all_operation_nodes x))) 1 (λ k. one_of x k (operation_node x k)) in
    let count = length-range_with_len 0 (length (all_operation_nodes x)) in
    omega (arith, few, most, count)

word_printable : (z : ℤ) → IsWord z → IsPrintableOperand (operand.Known z)
word_printable (pos n) is = is.sfits
word_printable (negsuc n) is = is.sfits

operand_printable : (x : OperationNet) (piece : ℕ) (o : Operand) → IsShortOperand x piece o → IsPrintableOperand (operand_of x piece o)
operand_printable x piece (From number) short = short
operand_printable x piece (Known z) short = word_printable z short

at_printable : (x : OperationNet) (k piece : ℕ) (os : List Operand) → k < 2 ^ 32 → AreShortOperands x piece os → All IsPrintableValue (values_at x k piece os)
at_printable x k piece [] few short = All-nil IsPrintableValue
at_printable x k piece (o ∷ os) few short =
    All-cons IsPrintableValue (record { node = k; operands = vec_with (map (operand_of x piece) (o ∷ os)) }) []
    (record {
      node = few;
      operands = subst (λ (held : List PrintedOperand). All IsPrintableOperand held) (sym (operands_kept x piece (o ∷ os) (lt_trans short.few short_is_small)))
          (All-map IsPrintableOperand (operand_of x piece) (o ∷ os) (All-weaker (IsShortOperand x piece) (λ o'. IsPrintableOperand (operand_of x piece o')) (operand_printable x piece) (o ∷ os) short.each));
    })
    (All-nil IsPrintableValue)

value_printable : (x : OperationNet) (k : ℕ) (name : NodeName) → k < 2 ^ 32 → HasShortOperands x name → All IsPrintableValue (values_of x k name)
value_printable x k (Op piece i) few short = at_printable x k piece (operation_at x piece i).operands few short
value_printable x k (Switch piece line) few short = All-nil IsPrintableValue
value_printable x k (Merge piece line) few short = All-nil IsPrintableValue
value_printable x k (Act piece) few short = All-nil IsPrintableValue

pub values_printable : (x : OperationNet) → IsShortNet x → All IsPrintableValue (values_told_of x)
values_printable x short =
    each_of_parts (λ k. k < length (all_operation_nodes x)) IsPrintableValue (λ k. values_of x k (operation_node x k)) (range_with_len 0 (length (all_operation_nodes x)))
    (λ k lt. value_printable x k (operation_node x k) (lt_trans lt short.nodes) (short.operands k lt))
    (each_below (length (all_operation_nodes x)))
