-- An edge is left for the switches of a piece, one after another.
use Rattle.std.proofs.Common.{◌≡◌, ◌<◌, ◌≤◌, ℕ, suc, ◌+◌, ◌-◌, true, false, not, List, [], ◌∷◌, length, fold, Option, None, Some, is_some, refl, sym, ap, ◌∙◌, subst, arith}
use Rattle.std.specs.List.{list_all, range_with_len}
use Rattle.net_board.specs.Nodes.{first_node, graph_in, kind_in, node_count, nodes_of, switch_lines, switches}
use Rattle.net_board.specs.Tokens.{joined, left_for, with_all}
use Rattle.net_board.proofs.ListPlaces.{all_pass, get_set_other}
use Rattle.list_laws.proofs.Members.{Member-range}
use Rattle.net_board.proofs.PieceSteps.{node_below}
use Rattle.op_board.specs.OperationNets.{OperationNet, first_operation, operation_at, operation_count}
use Rattle.op_board.specs.OperationTokens.{OperationTokens, are_clear}
use Rattle.op_net.specs.PlaceSteps.{edge_left}
use Rattle.op_board.specs.Operations.{is_decision}
use Rattle.op_board.proofs.PieceNodes.{acting_count}
use Rattle.operation_places.specs.StandingChanges.{room_filled}
use Rattle.operation_tables.specs.Waits.{AreSwitchNodes, node_total}
use Rattle.operation_tables.proofs.NodeNames.{acts_where}
use Rattle.operation_tables.proofs.OperationRanges.{nodes_within}
use Rattle.operation_tables.proofs.SwitchNodes.{decided_switches, decision_last, switch_count}

all_left : (edge : ℕ) (m : OperationTokens) (places : List ℕ) → fold (edge_left edge) m places ≡ record m { tokens = record m.tokens { edges = with_all m.tokens.edges places (λ switch. Some edge) } }
all_left edge m [] = refl
all_left edge m (switch ∷ places) = all_left edge (edge_left edge m switch) places

none_there : (o : Option ℕ) → not (is_some o) ≡ true → o ≡ None
none_there None is = refl
none_there (Some e) is = let no : false ≡ true = is in absurd cc

-- the first of a row of numbers
pub row_at : (k end : ℕ) → k < end → range_with_len k (end - k) ≡ k ∷ range_with_len (k + 1) (end - (k + 1))
row_at k end low = let more : end - k ≡ suc (end - (k + 1)) = omega (arith, low) in ap (range_with_len k) more

pub row_next : (k end : ℕ) → k < end → length (range_with_len k (end - k)) ≡ 1 + length (range_with_len (k + 1) (end - (k + 1)))
row_next k end low = let same : length (range_with_len k (end - k)) ≡ suc (length (range_with_len (k + 1) (end - (k + 1)))) = ap length (row_at k end low) in omega (arith, same)

pub row_none : (k end : ℕ) → end ≤ k → range_with_len k (end - k) ≡ []
row_none k end past = let none : end - k ≡ 0 = omega (arith, past) in ap (range_with_len k) none

-- another switch has what it had
pub left_same : (m : OperationTokens) (edge switch other : ℕ) → (switch ≡ other → ⊥) → left_for (edge_left edge m switch).tokens other ≡ left_for m.tokens other
left_same m edge switch other apart = ap joined (get_set_other m.tokens.edges switch other (Some edge) apart)

module _ (x : OperationNet) (piece : ℕ) where
  pub room_left : (m : OperationTokens) (edge from long : ℕ) → switches x.net piece ≡ range_with_len from long → fold (edge_left edge) m (range_with_len from long) ≡ room_filled x m piece edge
  room_left m edge from long is = ap (fold (edge_left edge) m) (sym is) ∙ all_left edge m (switches x.net piece)

  pub clear_at : (m : OperationTokens) (from long j : ℕ) → switches x.net piece ≡ range_with_len from long → are_clear x m piece ≡ true → from ≤ j → j < from + long → left_for m.tokens j ≡ None
  clear_at m from long j is clear low high =
      none_there (left_for m.tokens j)
      (all_pass (λ (switch : ℕ). not (is_some (left_for m.tokens switch))) (range_with_len from long) j
      (ap (list_all (λ (switch : ℕ). not (is_some (left_for m.tokens switch)))) (sym is) ∙ clear)
      (Member-range from long j low high))

-- a piece with operations has a node in the net of statements
pub first_inside : (x : OperationNet) (piece i : ℕ) → piece < (graph_in x.net).nodes → i < operation_count x piece → first_node x.net piece < length (nodes_of x.net)
first_inside x piece i exists inside =
    let some = switch_count x piece (acts_where x piece i inside) in
    let below = node_below x.net piece 0 exists (omega (arith, some)) in
    omega (arith, below)

-- ---- the switches of a decision

module _ (x : OperationNet) (piece i from end decision : ℕ) (exists : piece < (graph_in x.net).nodes) (inside : i < operation_count x piece) (decides : is_decision (operation_at x piece i).work ≡ true) (starts : from ≡ first_node x.net piece + 1) (ends : end ≡ first_node x.net piece + node_count x.net piece) (is : decision ≡ first_operation x piece + i) where
  abbrev count : ℕ
  count = length (switch_lines x.net piece (kind_in x.net piece))

  all_switches : end ≡ from + count
  all_switches = let some = switch_count x piece (acts_where x piece i inside) in omega (arith, some, starts, ends)

  pub switches_row : switches x.net piece ≡ range_with_len from (end - from)
  switches_row =
      let a : suc (first_node x.net piece) ≡ from = omega (arith, starts) in
      let b : count ≡ end - from = let all = all_switches in omega (arith, all) in
      ap (λ (f : ℕ). range_with_len f (length (switch_lines x.net piece (kind_in x.net piece)))) a ∙ ap (range_with_len from) b

  module _ (switch : ℕ) (low : from ≤ switch) (high : switch < end) where
    place_low : switch - from < count
    place_low = let all = all_switches in omega (arith, all, low, high)

    -- the node of the switch is one of the net
    pub switch_within : decision + 1 + (switch - from) < node_total x
    switch_within =
        let acts = acts_where x piece i inside in
        let all = acting_count x piece acts in
        let some = switch_count x piece acts in
        let last = decision_last x piece i inside decides in
        let within = nodes_within x piece exists in
        let place : switch - from < length (switch_lines x.net piece (kind_in x.net piece)) = place_low in
        omega (arith, all, some, last, within, place, is)

    pub switch_decided : AreSwitchNodes x switch (decision + 1 + (switch - from)) decision
    switch_decided =
        let number : suc (first_node x.net piece) + (switch - from) ≡ switch = omega (arith, starts, low) in
        let node : first_operation x piece + (i + 1 + (switch - from)) ≡ decision + 1 + (switch - from) = omega (arith, is) in
        subst (λ (n : ℕ). AreSwitchNodes x n (decision + 1 + (switch - from)) decision) number
        (subst (λ (n : ℕ). AreSwitchNodes x (suc (first_node x.net piece) + (switch - from)) n decision) node
        (subst (λ (n : ℕ). AreSwitchNodes x (suc (first_node x.net piece) + (switch - from)) (first_operation x piece + (i + 1 + (switch - from))) n) (sym is)
        (decided_switches x piece i (switch - from) exists inside decides place_low)))
