-- For how much an operation waits, by its row.
use Rattle.std.proofs.Common.{◌≡◌, ◌<◌, ◌+◌, ◌^◌, ℕ, length, not, is_some, if◌then◌else◌, All, ap, ◌∙◌, subst, arith}
use Rattle.firing.specs.declared.system.NodeName.{NodeName}
use Rattle.firing.specs.declared.system.NodeName.TheVariants.{Op}
use Rattle.net_board.specs.Nodes.{switches}
use Rattle.net_board.specs.Tokens.{left_for}
use Rattle.op_board.specs.OperationNets.{OperationNet, first_operation, needed, operation_at, operation_node}
use Rattle.op_board.specs.OperationTokens.{OperationTokens, is_given, stands_before, value_at}
use Rattle.operation_tables.specs.declared.hops.Hop.{Hop}
use Rattle.operation_places.specs.declared.places.Places.{Places}
use Rattle.operation_tables.specs.declared.rows.Row.{Row}
use Rattle.operation_tables.specs.OperationRows.{IsRow}
use Rattle.operation_places.specs.PlacesView.{standing}
use Rattle.operation_places.specs.RowWaits.{IsBelow, hop_stands, is_there}
use Rattle.operation_tables.specs.Waits.{failing, one_if, waits, waits_as, waits_for_room}
use Rattle.operation_tables.proofs.NodeNames.{IsOperationAt}
use Rattle.operation_places.proofs.RowWaits.{hops_exist, hops_wait, operands_below, operands_wait}

module _ (x : OperationNet) (places : Places) (k piece i first : ℕ) (row : Row) (is : IsRow x piece i row) (at : IsOperationAt x k piece i) (begins : first ≡ first_operation x piece) where
  pub row_lines_exist : All (λ (hop : Hop). hop.line < x.net.routing.lines) row.hops.items
  row_lines_exist = hops_exist x (standing places) piece i row.hops.items is.lines is.hops

  pub row_operands_below : k < length places.values.items → All (IsBelow (length places.values.items) first) row.operands.items
  row_operands_below below = operands_below x k piece i first at begins row.operands.items is.operands (length places.values.items) below

  pub row_waits : (lines operands own room : ℕ) → lines ≡ failing (hop_stands x (standing places) piece) row.hops.items → operands ≡ failing (is_there places.values.items first) row.operands.items → own ≡ one_if (is_some (value_at (standing places) k)) → room ≡ (if row.decides then failing (λ switch. not (is_some (left_for (standing places).tokens switch))) (switches x.net piece) else 0) → lines + (operands + (own + room)) ≡ waits_as x (standing places) k (Op piece i)
  row_waits lines operands own room of_lines of_operands of_own of_room =
      let a : lines ≡ failing (stands_before x (standing places) piece i) (needed x piece i) = of_lines ∙ hops_wait x (standing places) piece i row.hops.items is.lines is.hops in
      let b : operands ≡ failing (is_given x (standing places) piece) (operation_at x piece i).operands = of_operands ∙ operands_wait x k piece i first at begins row.operands.items is.operands (standing places) in
      let c : room ≡ waits_for_room x (standing places) piece (operation_at x piece i).work = of_room ∙ ap (λ b. if b then failing (λ switch. not (is_some (left_for (standing places).tokens switch))) (switches x.net piece) else 0) is.decides in
      ap (λ n. n + (operands + (own + room))) a
      ∙ ap (λ n. failing (stands_before x (standing places) piece i) (needed x piece i) + (n + (own + room))) b
      ∙ ap (λ n. failing (stands_before x (standing places) piece i) (needed x piece i) + (failing (is_given x (standing places) piece) (operation_at x piece i).operands + (n + room))) of_own
      ∙ ap (λ n. failing (stands_before x (standing places) piece i) (needed x piece i) + (failing (is_given x (standing places) piece) (operation_at x piece i).operands + (one_if (is_some (value_at (standing places) k)) + n))) c

-- the sum can be counted
pub sum_few : (x : OperationNet) (m : OperationTokens) (k n : ℕ) (name : NodeName) → waits x m k < 2 ^ 34 → operation_node x k ≡ name → n ≡ waits_as x m k name → n < 2 ^ 34
sum_few x m k n name few named is =
    let there : waits_as x m k name < 2 ^ 34 = subst (λ (a : NodeName). waits_as x m k a < 2 ^ 34) named few in
    omega (arith, there, is)
