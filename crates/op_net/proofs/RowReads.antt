-- What the firing of an operation reads in its row, where the row is known to be true.
use Rattle.std.proofs.Common.{◌≡◌, ◌<◌, ◌≤◌, ◌+◌, ◌-◌, ◌≢◌, ◌⊎◌, ⊎_elim, inl, inr, if◌then◌else◌, ℕ, true, lt-ltb, le-ltb, length, ap, sym, subst, ◌∙◌, arith}
use Rattle.std.proofs.Math.Logic.{∥∥₁_elim}
use Rattle.std.proofs.Props.{props}
use Rattle.std.proofs.lemmas.Bool.{cases_lt}
use Rattle.cfg_build.specs.Passes.{out}
use Rattle.closed_walks.specs.Graph.{edge_count}
use Rattle.net_board.specs.Nodes.{graph_in}
use Rattle.net_tables.proofs.LookupLemmas.{some_edge}
use Rattle.net_tables.proofs.TableLemmas.{out_exists}
use Rattle.op_board.specs.OperationNets.{OperationNet, first_operation, operation_at}
use Rattle.op_board.specs.Operations.{gives_value, is_decision}
use Rattle.operation_tables.specs.declared.lookups.OperationBoard.{OperationBoard}
use Rattle.operation_tables.specs.declared.rows.Row.{Row}
use Rattle.operation_tables.specs.BoardView.{operation_net_on}
use Rattle.operation_tables.specs.OperationRows.{IsRow, IsTaker, short_count, waits_anew}
use Rattle.operation_tables.specs.Waits.{IsNodeAfter, node_total}
use Rattle.operation_tables.proofs.NodeNames.{operation_within}
use Rattle.operation_tables.proofs.NodesAfter.{one_after}

-- there are more than three, or there are as many as are counted
short_counts : (n : ℕ) → (short_count n ≡ 4) ⊎ ((n ≤ 3) × (short_count n ≡ n))
short_counts n = ⊎_elim
    (λ (many : 3 < n). inl (ap (λ b. if b then 4 else n) (lt-ltb 3 n many)))
    (λ (few : n ≤ 3). inr (few, ap (λ b. if b then 4 else n) (le-ltb 3 n few)))
    (cases_lt 3 n)

module _ (x : OperationNet) (piece i : ℕ) (row : Row) (is : ∥ IsRow x piece i row ∥₁) where
  pub row_piece : row.piece ≡ piece
  row_piece = ∥∥₁_elim is (Prim.hlevel props) (λ (r : IsRow x piece i row). r.own_piece)

  pub row_number : row.number ≡ i
  row_number = ∥∥₁_elim is (Prim.hlevel props) (λ (r : IsRow x piece i row). r.own_number)

  pub row_edge : row.edge ≡ out (graph_in x.net) piece 0
  row_edge = ∥∥₁_elim is (Prim.hlevel props) (λ (r : IsRow x piece i row). r.edge)

  pub row_decides : row.decides ≡ is_decision (operation_at x piece i).work
  row_decides = ∥∥₁_elim is (Prim.hlevel props) (λ (r : IsRow x piece i row). r.decides)

  pub row_serial : row.serial ≡ x.needs piece i 0
  row_serial = ∥∥₁_elim is (Prim.hlevel props) (λ (r : IsRow x piece i row). r.serial)

  pub row_waits : row.waits ≡ waits_anew x piece i
  row_waits = ∥∥₁_elim is (Prim.hlevel props) (λ (r : IsRow x piece i row). r.waits)

  row_short : row.count ≡ short_count (length (operation_at x piece i).operands)
  row_short = ∥∥₁_elim is (Prim.hlevel props) (λ (r : IsRow x piece i row). r.count)

  module _ (few : row.count ≢ 4) where
    pub row_count : row.count ≡ length (operation_at x piece i).operands
    row_count = ⊎_elim
        (λ (many : short_count (length (operation_at x piece i).operands) ≡ 4). absurd (few (row_short ∙ many)))
        (λ (own : _ × _). row_short ∙ own.1)
        (short_counts (length (operation_at x piece i).operands))

    pub row_at_most : length (operation_at x piece i).operands ≤ 3
    row_at_most = ⊎_elim
        (λ (many : short_count (length (operation_at x piece i).operands) ≡ 4). absurd (few (row_short ∙ many)))
        (λ (own : _ × _). own.0)
        (short_counts (length (operation_at x piece i).operands))

    pub row_count_low : row.count ≤ 3
    row_count_low = let count = row_count in let low = row_at_most in omega (arith, count, low)

  pub row_taker : gives_value (operation_at x piece i).work ≡ true → IsTaker x piece i row.taker
  row_taker gives = ∥∥₁_elim is (Prim.hlevel props) (λ (r : IsRow x piece i row). r.taker (r.gives ∙ gives))

  -- the node that takes the value of the operation
  module _ (gives : gives_value (operation_at x piece i).work ≡ true) (exists : piece < (graph_in x.net).nodes) (k : ℕ) (number : k ≡ first_operation x piece + i) where
    pub taker_within : (k - i) + row.taker < node_total x
    taker_within =
        let taker : IsTaker x piece i row.taker = row_taker gives in
        let within = operation_within x piece row.taker exists taker.inside in
        omega (arith, within, number)

    pub taker_after : IsNodeAfter x k ((k - i) + row.taker)
    taker_after =
        let here : first_operation x piece + row.taker ≡ (k - i) + row.taker = omega (arith, number) in
        subst (λ (a : ℕ). IsNodeAfter x a ((k - i) + row.taker)) (sym number) (subst (IsNodeAfter x (first_operation x piece + i)) here (one_after x piece i row.taker exists (row_taker gives)))

module _ {W : ℕ} (board : OperationBoard W) (piece i : ℕ) (row : Row) (is : ∥ IsRow (operation_net_on board) piece i row ∥₁) where
  pub row_edge_exists : row.edge < edge_count (graph_in (operation_net_on board).net)
  row_edge_exists =
      subst (λ e. e < edge_count (graph_in (operation_net_on board).net)) (sym (row_edge (operation_net_on board) piece i row is))
      (out_exists (graph_in (operation_net_on board).net) piece 0 (some_edge board.plan.board.plan))
