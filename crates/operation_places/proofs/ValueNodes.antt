-- A node whose value is taken is an operation.
use Rattle.std.proofs.Common.{◌≡◌, ⊎_elim, ◌<◌, ◌+◌, ◌==◌, ℕ, true, List, [], ◌∷◌, refl, sym, ap, ◌∙◌, arith}
use Rattle.std.proofs.lemmas.Bool.{cases_eq, eq-eqb, ne_eqb}
use Rattle.firing.specs.declared.system.NodeName.{NodeName}
use Rattle.firing.specs.declared.system.NodeName.TheVariants.{Act, Merge, Op, Switch}
use Rattle.op_board.specs.Operations.{From, Known, Operand}
use Rattle.op_board.specs.OperationLists.{takes_by}
use Rattle.op_board.specs.OperationNets.{OperationNet, first_operation, operation_at, operation_node}
use Rattle.op_board.specs.OperationTokens.{givers}
use Rattle.operation_tables.specs.PlanFacts.{PlanFacts}
use Rattle.operation_tables.specs.Waits.{IsNodeAfter, node_total, one_if, operands_from, takes_from}
use Rattle.operation_tables.proofs.NodeNames.{operation_at_node, operation_name_at}
use Rattle.operation_tables.proofs.NodesAfter.{giver_before}
use Rattle.operation_places.proofs.OperandBounds.{takes_more, takes_same}
use Rattle.operation_places.proofs.WaitChanges.{is_operation}

-- the operation of the piece with this number is the node, and its value is an operand
record IsGiver (x : OperationNet) (piece k : ℕ) (operands : List Operand) : Type 0 where
  number : ℕ
  takes : 0 < takes_by operands number
  is : first_operation x piece + number ≡ k

module _ (x : OperationNet) (piece k : ℕ) where
  giver_more : (other : ℕ) (operands : List Operand) → IsGiver x piece k operands → IsGiver x piece k (From other ∷ operands)
  giver_more other operands r = record {
    number = r.number;
    takes = let some = r.takes in let more = takes_more other r.number (takes_by operands r.number) in omega (arith, some, more);
    is = r.is;
  }

  giver_of : (operands : List Operand) → 0 < operands_from (givers x piece operands) k → IsGiver x piece k operands
  giver_of [] some = absurd (omega (arith, some))
  giver_of (Known z ∷ operands) some = let r = giver_of operands some in record { number = r.number; takes = r.takes; is = r.is }
  giver_of (From other ∷ operands) some = ⊎_elim
      (λ (e : first_operation x piece + other ≡ k). record {
        number = other;
        takes = let same = takes_same other (takes_by operands other) in omega (arith, same);
        is = e;
      })
      (λ (differ : first_operation x piece + other ≡ k → ⊥).
      let none : one_if (first_operation x piece + other == k) ≡ 0 = ap one_if (ne_eqb (first_operation x piece + other) k differ) in
      giver_more other operands (giver_of operands (omega (arith, some, none))))
      (cases_eq (first_operation x piece + other) k)

module _ (x : OperationNet) (facts : PlanFacts x) (k taker : ℕ) (below : taker < node_total x) (after : IsNodeAfter x k taker) where
  operates_by : (name : NodeName) → operation_node x taker ≡ name → takes_from x name k ≡ 1 → is_operation (operation_node x k) ≡ true
  operates_by (Op piece i) is one =
      let at = operation_at_node x taker piece i below is in
      let giver = giver_of x piece k (operation_at x piece i).operands (omega (arith, one)) in
      let earlier = giver_before x piece i giver.number at.inside giver.takes in
      let inside = at.inside in
      ap (λ j. is_operation (operation_node x j)) (sym giver.is) ∙ ap is_operation (operation_name_at x piece giver.number at.exists (omega (arith, earlier, inside)))
  operates_by (Switch piece line) is one = absurd (omega (arith, one))
  operates_by (Merge piece line) is one = absurd (omega (arith, one))
  operates_by (Act piece) is one = absurd (omega (arith, one))

  pub giver_operates : is_operation (operation_node x k) ≡ true
  giver_operates = operates_by (operation_node x taker) refl (after taker below ∙ ap one_if (eq-eqb taker taker refl))
