-- The numbers of the nodes of a piece are those of a row among all nodes, and its operations come first there.
use Rattle.std.proofs.Common.{◌≡◌, ◌<◌, ◌≤◌, ⊎_elim, ◌+◌, ◌-◌, ◌^◌, ℕ, zero, suc, true, false, length, sym, ap, ◌∙◌, subst, length-append, arith}
use Rattle.std.proofs.lemmas.Bool.{cases_Bool}
use Rattle.net_board.specs.Nodes.{graph_in, is_acting, kind_in}
use Rattle.op_board.specs.OperationNets.{OperationNet, first_operation, operation_count, operation_node_count, operation_nodes_at, operation_nodes_below}
use Rattle.op_board.proofs.PieceNodes.{acting_count, no_operations}
use Rattle.net_tables.proofs.TableLemmas.{flat_map_next}
use Rattle.operation_tables.specs.OperationTables.{AreOperationTables}
use Rattle.operation_tables.specs.Waits.{node_total}
use Rattle.operation_tables.specs.declared.tables.OperationTables.{OperationTables}
use Rattle.operation_tables.proofs.SwitchNodes.{switch_count}

module _ (x : OperationNet) where
  pub next_first : (piece : ℕ) → first_operation x (piece + 1) ≡ first_operation x piece + operation_node_count x piece
  next_first piece = ap length (flat_map_next (operation_nodes_at x) piece) ∙ length-append (operation_nodes_below x piece) (operation_nodes_at x piece)

  first_rises : (piece more : ℕ) → first_operation x piece ≤ first_operation x (piece + more)
  first_rises piece zero = let e : piece + 0 ≡ piece = omega arith in subst (λ (n : ℕ). first_operation x piece ≤ first_operation x n) (sym e) (omega arith)
  first_rises piece (suc more) =
      let r = first_rises piece more in
      let n = next_first (piece + more) in
      let e : (piece + more) + 1 ≡ piece + suc more = omega arith in
      subst (λ (n : ℕ). first_operation x piece ≤ first_operation x n) e (omega (arith, r, n))

  -- the nodes of a piece are among all nodes
  pub nodes_within : (piece : ℕ) → piece < (graph_in x.net).nodes → first_operation x piece + operation_node_count x piece ≤ node_total x
  nodes_within piece below =
      let more : (d : ℕ) × ((piece + 1) + d ≡ (graph_in x.net).nodes) = ((graph_in x.net).nodes - (piece + 1), omega (arith, below)) in
      let r = first_rises (piece + 1) more.0 in
      let n = next_first piece in
      let last : first_operation x (piece + 1) ≤ first_operation x (graph_in x.net).nodes = subst (λ (m : ℕ). first_operation x (piece + 1) ≤ first_operation x m) more.1 r in
      omega (arith, last, n)

  -- a piece has at least as many nodes as operations
  pub operations_within : (piece : ℕ) → operation_count x piece ≤ operation_node_count x piece
  operations_within piece = ⊎_elim
      (λ (acts : is_acting (kind_in x.net piece) ≡ true).
      let all = acting_count x piece acts in
      let some = switch_count x piece acts in
      omega (arith, all, some))
      (λ (idle : is_acting (kind_in x.net piece) ≡ false). let none = no_operations x piece idle in omega (arith, none))
      (cases_Bool (is_acting (kind_in x.net piece)))

  module _ (t : OperationTables) (are : AreOperationTables x t) where
    pub few_operations : (piece : ℕ) → piece < (graph_in x.net).nodes → operation_count x piece < 2 ^ 32
    few_operations piece exists =
        let within = nodes_within piece exists in
        let some = operations_within piece in
        let few = are.few in
        omega (arith, within, some, few)
