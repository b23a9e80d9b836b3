-- Where a run ends, nothing is ready in a net of operations.
use Rattle.std.proofs.Common.{◌≡◌, ◌<◌, ◌≤◌, ◌⊎◌, ⊎_elim, ℕ, zero, suc, ◌+◌, ◌&&◌, ◌==◌, not, Bool, true, false, List, [], ◌∷◌, ◌++◌, length, length-append, flat_map, replicate, None, is_some, slice_get, refl, sym, ap, ◌∙◌, subst, inl, inr, append-nil, arith, eqb-true}
use Rattle.std.proofs.lemmas.Bool.{and_parts, cases_Bool}
use Rattle.std.specs.List.{list_all, range_with_len}
use Rattle.closed_walks.specs.Graph.{to}
use Rattle.f77_tree.specs.Execution.{Memory}
use Rattle.cfg_build.specs.declared.pieces.PieceKind.TheVariants as kind
use Rattle.firing.specs.Orders.{IsOver}
use Rattle.firing.specs.declared.system.NodeName.TheVariants.{Op}
use Rattle.net_board.specs.FlowFacts.{FlowFacts}
use Rattle.net_board.specs.NetLockstep.{IsBetween}
use Rattle.net_board.specs.Nodes.{graph_in, kind_in, first_node, is_acting, node_count}
use Rattle.net_board.specs.SoundNets.{IsNet}
use Rattle.net_board.specs.Tokens.{Tokens, is_before, leads_to}
use Rattle.net_board.proofs.ListPlaces.{all_pass}
use Rattle.net_board.proofs.OrderJoins.{range_more}
use Rattle.net_board.proofs.PieceSteps.{node_below}
use Rattle.net_board.proofs.RestLaws.{all_back, rests, some_edge}
use Rattle.op_board.specs.OperationFacts.{NeedsLine, OperationFacts, TakesValue}
use Rattle.op_board.specs.OperationLists.{takes_by}
use Rattle.op_board.specs.Operations.{Operand, Known, From}
use Rattle.op_board.specs.OperationLockstep.{act_count}
use Rattle.op_board.specs.OperationNets.{OperationNet, all_operation_nodes, first_operation, needed, needing_before, operation_at, operation_count, operation_node, operation_node_count, operation_nodes_at}
use Rattle.op_board.specs.OperationTokens as game
use Rattle.op_board.specs.OperationTokens.{between_pieces, has_room, is_given, operation_moves, passed_by, stands_before, value_at, value_of}
use Rattle.op_board.proofs.NeededLines.{needed_in, IsDistance, distance}
use Rattle.op_board.proofs.OtherNodes.{Commutes, IsBeside, beside, beside_count}
use Rattle.op_board.proofs.PieceLines.{low_or_high}
use Rattle.op_board.proofs.PieceNodes.{is_operation, no_operations, operation_named}

-- ---- which piece a node belongs to

flat_join : {X : Type 0} (f : ℕ → List X) (xs ys : List ℕ) → flat_map f (xs ++ ys) ≡ flat_map f xs ++ flat_map f ys
flat_join f [] ys = refl
flat_join f (k ∷ xs) ys = ap (λ rest. f k ++ rest) (flat_join f xs ys) ∙ sym (Rattle.std.proofs.Common.append_assoc (f k) (flat_map f xs) (flat_map f ys))

-- a place in lists in a row
pub record IsInRow {X : Type 0} (f : ℕ → List X) (n k : ℕ) : Type 0 where
  pub which : ℕ
  pub exists : which < n
  pub place : ℕ
  pub inside : place < length (f which)
  pub is : length (flat_map f (range_with_len 0 which)) + place ≡ k

pub in_row : {X : Type 0} (f : ℕ → List X) (n k : ℕ) → k < length (flat_map f (range_with_len 0 n)) → IsInRow f n k
in_row f zero k low = absurd (omega (arith, low))
in_row f (suc n) k low = by (in_row f n k) (low_or_high k (length (flat_map f (range_with_len 0 n))))
  where
    e : 0 + n ≡ n
    e = omega arith

    long : length (flat_map f (range_with_len 0 (suc n))) ≡ length (flat_map f (range_with_len 0 n)) + length (f n)
    long = ap (λ (xs : List ℕ). length (flat_map f xs)) (range_more 0 n) ∙ ap (λ ys. length ys) (flat_join f (range_with_len 0 n) ((0 + n) ∷ [])) ∙ length-append (flat_map f (range_with_len 0 n)) (f (0 + n) ++ []) ∙ ap (λ ys. length (flat_map f (range_with_len 0 n)) + length ys) (append-nil (f (0 + n))) ∙ ap (λ (i : ℕ). length (flat_map f (range_with_len 0 n)) + length (f i)) e

    by : (k < length (flat_map f (range_with_len 0 n)) → IsInRow f n k) → (k < length (flat_map f (range_with_len 0 n))) ⊎ (length (flat_map f (range_with_len 0 n)) ≤ k) → IsInRow f (suc n) k
    by before (inl less) = let r : IsInRow f n k = before less in let exists = r.exists in record { which = r.which; exists = omega (arith, exists); place = r.place; inside = r.inside; is = r.is }
    by before (inr more) = at (distance (length (flat_map f (range_with_len 0 n))) k more)
      where
        at : IsDistance (length (flat_map f (range_with_len 0 n))) k → IsInRow f (suc n) k
        at r = let sum = r.is in let all = long in record { which = n; exists = omega arith; place = r.more; inside = omega (arith, low, sum, all); is = omega (arith, sum) }

-- ---- no operation is ready

no_value : (n k : ℕ) → is_some (value_of (slice_get (replicate n None) k)) ≡ false
no_value zero k = refl
no_value (suc n) zero = refl
no_value (suc n) (suc k) = no_value n k

module _ (x : OperationNet) where
  none_given : (m : Tokens) (piece number : ℕ) (operands : List Operand) → 0 < takes_by operands number → list_all (is_given x (between_pieces x m) piece) operands ≡ true → ⊥
  none_given m piece number [] some given = omega (arith, some)
  none_given m piece number (Known z ∷ operands) some given = none_given m piece number operands some given
  none_given m piece number (From other ∷ operands) some given =
      let first = (and_parts (is_some (value_at (between_pieces x m) (first_operation x piece + other))) (list_all (is_given x (between_pieces x m) piece) operands) given).0 in
      let clash : false ≡ true = sym (no_value (length (all_operation_nodes x)) (first_operation x piece + other)) ∙ first in
      absurd cc

  module _ (facts : OperationFacts x) (is_net : IsNet x.net) (ground : FlowFacts x.net is_net.tree) (m : Tokens) (memory : Memory) (between : IsBetween x.net is_net.tree m 0 memory) where
    back : to (graph_in x.net) 0 ≡ 0
    back = (ground.graph.shape.comes_to_start 0 (some_edge x.net is_net ground)).1 refl

    at_start : (piece line : ℕ) → piece < (graph_in x.net).nodes → line < x.net.routing.lines → is_before x.net m piece line ≡ true → is_acting (kind_in x.net piece) ≡ false
    at_start piece line exists low before =
        let there : (to (graph_in x.net) 0 == piece) ≡ true = sym (ap (leads_to (graph_in x.net) piece) (all_back x.net is_net ground m memory between line low)) ∙ before in
        let same : piece ≡ 0 = sym (sym back ∙ eqb-true (to (graph_in x.net) 0) piece there) in
        let start : kind_in x.net piece ≡ kind.Start = (ground.graph.shape.start piece exists).1 same in
        ap is_acting start

    operation_rests : (k piece i : ℕ) → piece < (graph_in x.net).nodes → is_acting (kind_in x.net piece) ≡ true → i < operation_count x piece → game.can_operate x (between_pieces x m) k piece i (operation_at x piece i) ≡ true → ⊥
    operation_rests k piece i exists acts low can = by (facts.waits piece i exists low)
      where
        parts : (list_all (stands_before x (between_pieces x m) piece i) (needed x piece i) ≡ true) × (list_all (is_given x (between_pieces x m) piece) (operation_at x piece i).operands ≡ true)
        parts =
            let whole = and_parts (list_all (stands_before x (between_pieces x m) piece i) (needed x piece i) && list_all (is_given x (between_pieces x m) piece) (operation_at x piece i).operands && not (is_some (value_at (between_pieces x m) k))) (has_room x (between_pieces x m) piece (operation_at x piece i).work) can in
            let three = and_parts (list_all (stands_before x (between_pieces x m) piece i) (needed x piece i) && list_all (is_given x (between_pieces x m) piece) (operation_at x piece i).operands) (not (is_some (value_at (between_pieces x m) k))) whole.0 in
            let two = and_parts (list_all (stands_before x (between_pieces x m) piece i) (needed x piece i)) (list_all (is_given x (between_pieces x m) piece) (operation_at x piece i).operands) three.0 in
            (two.0, two.1)

        by : NeedsLine x piece i ⊎ TakesValue (operation_at x piece i) → ⊥
        by (inl needs) =
            let stands = all_pass (stands_before x (between_pieces x m) piece i) (needed x piece i) needs.line parts.0 (needed_in x piece i needs.line needs.exists needs.needs) in
            let before = (and_parts (is_before x.net m piece needs.line) (passed_by (between_pieces x m) needs.line == needing_before x piece i needs.line) stands).0 in
            let clash : true ≡ false = sym acts ∙ at_start piece needs.line exists needs.exists before in
            absurd cc
        by (inr takes) = none_given m piece takes.number (operation_at x piece i).operands takes.takes parts.1

    -- ---- nothing else is

    other_rests : (piece i j : ℕ) → piece < (graph_in x.net).nodes → IsBeside x piece i j → j < node_count x.net piece → (operation_moves x).ready (between_pieces x m) (first_operation x piece + i) ≡ true → ⊥
    other_rests piece i j exists is low ready =
        let same : Commutes x (first_operation x piece + i) (first_node x.net piece + j) = beside x piece i j exists is low in
        rests x.net is_net ground m memory between (first_node x.net piece + j) (record { going = between.trap_is; node = node_below x.net piece j exists low; ready = sym (same.ready m) ∙ ready })

    acting_rests : (piece i : ℕ) → piece < (graph_in x.net).nodes → is_acting (kind_in x.net piece) ≡ true → i < operation_node_count x piece → (operation_moves x).ready (between_pieces x m) (first_operation x piece + i) ≡ true → ⊥
    acting_rests piece i exists acts inside ready = by (low_or_high i (operation_count x piece))
      where
        by : (i < operation_count x piece) ⊎ (operation_count x piece ≤ i) → ⊥
        by (inl low) =
            let named : operation_node x (first_operation x piece + i) ≡ Op piece i = operation_named x piece i (Op piece i) exists (is_operation x piece i acts low) in
            operation_rests (first_operation x piece + i) piece i exists acts low (sym (ap (game.ready_as x (between_pieces x m) (first_operation x piece + i)) named) ∙ ready)
        by (inr high) = at (distance (operation_count x piece) i high)
          where
            at : IsDistance (operation_count x piece) i → ⊥
            at r =
                let sum = r.is in
                let plus : i + 1 ≡ suc r.more + operation_count x piece = omega (arith, sum) in
                let is : IsBeside x piece i (suc r.more) = (λ yes_acts. omega arith, ap (λ (b : Bool). i + act_count b) acts ∙ plus) in
                let count = beside_count x piece i (suc r.more) is in
                other_rests piece i (suc r.more) exists is (omega (arith, count, inside)) ready

    idle_rests : (piece i : ℕ) → piece < (graph_in x.net).nodes → is_acting (kind_in x.net piece) ≡ false → i < operation_node_count x piece → (operation_moves x).ready (between_pieces x m) (first_operation x piece + i) ≡ true → ⊥
    idle_rests piece i exists idle inside ready =
        let none = no_operations x piece idle in
        let is : IsBeside x piece i i = (λ acts. (let clash : true ≡ false = sym acts ∙ idle in absurd cc), ap (λ (b : Bool). i + act_count b) idle ∙ ap (λ (a : ℕ). i + a) (sym none)) in
        let count = beside_count x piece i i is in
        other_rests piece i i exists is (omega (arith, count, inside)) ready

    pub operations_rest : IsOver (operation_moves x) (between_pieces x m)
    operations_rest k can =
        let r : IsInRow (operation_nodes_at x) (graph_in x.net).nodes k = in_row (operation_nodes_at x) (graph_in x.net).nodes k can.node in
        let ready : (operation_moves x).ready (between_pieces x m) (first_operation x r.which + r.place) ≡ true = subst (λ (i : ℕ). (operation_moves x).ready (between_pieces x m) i ≡ true) (sym r.is) can.ready in
        ⊎_elim
        (λ (acts : is_acting (kind_in x.net r.which) ≡ true). acting_rests r.which r.place r.exists acts r.inside ready)
        (λ (idle : is_acting (kind_in x.net r.which) ≡ false). idle_rests r.which r.place r.exists idle r.inside ready)
        (cases_Bool (is_acting (kind_in x.net r.which)))
