-- How many operations, rows and nodes a planned net has.
use Rattle.std.proofs.Common.{◌≡◌, ◌<◌, ◌≤◌, ◌^◌, ℕ, zero, suc, ◌+◌, ◌*◌, true, length, map, refl, ap, ◌∙◌, length-append, arith}
use Rattle.std.proofs.lemmas.List.{length-map}
use Rattle.std.proofs.lemmas.List.FromFn.{length-range_with_len}
use Rattle.std.specs.List.{range_with_len}
use Rattle.cfg_build.specs.declared.pieces.PieceKind.{PieceKind}
use Rattle.cfg_build.specs.declared.pieces.PieceKind.TheVariants as kind
use Rattle.firing.specs.declared.system.NodeName.TheVariants.{Op, Switch}
use Rattle.net_board.specs.Nodes.{graph_in, kind_in, switch_lines}
use Rattle.net_tables.proofs.NodeCounts.{by_few}
use Rattle.op_board.specs.OperationFacts.{is_parting}
use Rattle.op_board.specs.OperationNets.{OperationNet, operation_count, operation_nodes, operation_nodes_at, operation_nodes_below, operation_nodes_by}
use Rattle.operation_tables.specs.declared.plan.OperationPlan.{OperationPlan}
use Rattle.operation_tables.specs.PieceTables.{rows_before}
use Rattle.operation_tables.specs.PlanView.{operations_in}
use Rattle.operation_tables.proofs.GrownLists.{flat_map_next, get_some}
use Rattle.operation_tables.proofs.NameLemmas.{parting_nodes, parting_operations}
use Rattle.operation_tables.proofs.PlannedCounts.{counted}

pub count_few : {W : ℕ} (plan : OperationPlan W) (piece : ℕ) → piece < (graph_in (operations_in plan).net).nodes → operation_count (operations_in plan) piece ≤ 500
count_few plan piece exists =
    let found = get_some plan.pieces.items piece (omega (arith, exists, plan.every_piece)) in
    let few = plan.few_operations piece found.0 found.1 in
    let count = counted plan piece found.0 found.1 in
    omega (arith, few, count)

module _ (x : OperationNet) (lines : x.net.routing.lines ≤ 1024) where
  switches_few : (piece : ℕ) (k : PieceKind) → is_parting k ≡ true → length (switch_lines x.net piece k) ≤ 1024
  switches_few piece k parts =
      let all = by_few x.net lines piece k in
      let is = ap length (parting_nodes x.net piece k parts) in
      let size = length-map (switch_lines x.net piece k) (Switch piece) in
      omega (arith, all, is, size)

  pub switch_count_few : (piece : ℕ) → length (switch_lines x.net piece (kind_in x.net piece)) ≤ 1024
  switch_count_few piece = by (kind_in x.net piece)
    where
      by : (k : PieceKind) → length (switch_lines x.net piece k) ≤ 1024
      by kind.Branch = switches_few piece kind.Branch refl
      by kind.Hold = switches_few piece kind.Hold refl
      by kind.Start = omega arith
      by kind.Pass = omega arith
      by kind.Act = omega arith
      by kind.Join = omega arith
      by kind.End = omega arith

  own_count : (piece : ℕ) → length (operation_nodes x piece) ≡ operation_count x piece
  own_count piece = length-map (range_with_len 0 (operation_count x piece)) (Op piece) ∙ length-range_with_len 0 (operation_count x piece)

  parting_few : (piece : ℕ) (k : PieceKind) → is_parting k ≡ true → operation_count x piece ≤ 500 → length (operation_nodes_by x piece k) ≤ 1525
  parting_few piece k parts count =
      let is = ap length (parting_operations x piece k parts) in
      let both = length-append (operation_nodes x piece) (map (Switch piece) (switch_lines x.net piece k)) in
      let own = own_count piece in
      let size = length-map (switch_lines x.net piece k) (Switch piece) in
      let few = switches_few piece k parts in
      omega (arith, count, is, both, own, size, few)

  at_few : (piece : ℕ) (k : PieceKind) → operation_count x piece ≤ 500 → length (operation_nodes_by x piece k) ≤ 1525
  at_few piece kind.Act count = let own = own_count piece in omega (arith, count, own)
  at_few piece kind.Branch count = parting_few piece kind.Branch refl count
  at_few piece kind.Hold count = parting_few piece kind.Hold refl count
  at_few piece kind.Start count = let all = by_few x.net lines piece (kind_in x.net piece) in omega (arith, all)
  at_few piece kind.Pass count = let all = by_few x.net lines piece (kind_in x.net piece) in omega (arith, all)
  at_few piece kind.Join count = let all = by_few x.net lines piece (kind_in x.net piece) in omega (arith, all)
  at_few piece kind.End count = let all = by_few x.net lines piece (kind_in x.net piece) in omega (arith, all)

  module _ (few : (piece : ℕ) → piece < (graph_in x.net).nodes → operation_count x piece ≤ 500) where
    below_few : (n : ℕ) → n ≤ (graph_in x.net).nodes → length (operation_nodes_below x n) ≤ n * 1525
    below_few zero low = omega arith
    below_few (suc n) low =
        let one : suc n ≡ n + 1 = omega arith in
        let is = ap (λ k. length (operation_nodes_below x k)) one ∙ ap length (flat_map_next (operation_nodes_at x) n) ∙ length-append (operation_nodes_below x n) (operation_nodes_at x n) in
        let before = below_few n (omega (arith, low)) in
        let here = at_few n (kind_in x.net n) (few n (omega (arith, low))) in
        next (length (operation_nodes_below x (suc n))) (length (operation_nodes_below x n)) (length (operation_nodes_at x n)) n is before here
      where
        next : (all before here k : ℕ) → all ≡ before + here → before ≤ k * 1525 → here ≤ 1525 → all ≤ suc k * 1525
        next all before here k is low few = omega (arith, is, low, few)

    rows_few : (n : ℕ) → n ≤ (graph_in x.net).nodes → rows_before x n ≤ n * 500
    rows_few zero low = omega arith
    rows_few (suc n) low =
        let before = rows_few n (omega (arith, low)) in
        let here = few n (omega (arith, low)) in
        omega (arith, before, here)

    pub nodes_numbered : (n : ℕ) → n ≤ (graph_in x.net).nodes → (graph_in x.net).nodes ≤ 160008 → length (operation_nodes_below x n) < 2 ^ 32
    nodes_numbered n low pieces = let all = below_few n low in omega (arith, low, pieces, all)

    pub rows_numbered : (n : ℕ) → n ≤ (graph_in x.net).nodes → (graph_in x.net).nodes ≤ 160008 → rows_before x n < 2 ^ 32
    rows_numbered n low pieces = let all = rows_few n low in omega (arith, low, pieces, all)
