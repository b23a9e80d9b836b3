-- Before which node a line stands that has passed no operation of the piece to which its edge leads.
use Rattle.std.proofs.Common.{◌≡◌, ◌<◌, ◌≤◌, ◌⊎◌, inl, inr, ℕ, ◌+◌, ◌&&◌, ◌==◌, true, false, length, Some, slice_get, refl, sym, ap, ◌∙◌, subst, arith, Bool, if◌then◌else◌}
use Rattle.std.proofs.lemmas.Bool.{and_from, and_parts, cases_Bool, eqb-true, eq-eqb, ne_eqb}
use Rattle.closed_walks.specs.Graph.{to}
use Rattle.firing.specs.declared.system.NodeName.{NodeName}
use Rattle.firing.specs.declared.system.NodeName.TheVariants.{Act, Merge, Switch, Op}
use Rattle.net_board.specs.Nodes.{graph_in, first_node, is_free, kind_in, node_count, nodes_at}
use Rattle.net_board.specs.Tokens.{leads_to}
use Rattle.net_board.specs.WokenNodes.{no_node, passing_below, place_of, switch_number}
use Rattle.net_board.proofs.NodeNumbers.{get_within, merge_is_at, switch_is_at}
use Rattle.net_board.proofs.PieceSteps.{node_below, node_named}
use Rattle.operation_tables.specs.PlanFacts.{PlanFacts}
use Rattle.op_board.specs.OperationNets.{OperationNet, first_operation, needing_before, operation_count, operation_node, operation_node_count}
use Rattle.op_board.proofs.FiringOperations.{both_ways}
use Rattle.op_board.proofs.PieceNodes.{acting_count, nodes_same}
use Rattle.operation_tables.specs.OperationRows.{IsEntry}
use Rattle.operation_places.specs.Turns.{is_turn}
use Rattle.operation_tables.specs.Waits.{IsNodeBefore, goes_through, node_total, stands_at}
use Rattle.operation_tables.proofs.NodeNames.{IsMergeAt, IsOperationAt, IsSwitchAt, merge_at_node, merge_stands, operation_at_node, switch_at_node}
use Rattle.operation_tables.proofs.NodesBefore.{named_before, operation_before}
use Rattle.operation_tables.proofs.SwitchNodes.{statement_name}

both_same : (a b c d : ℕ) → a ≡ b → c ≡ d → (a == b && c == d) ≡ true
both_same a b c d e f = and_from (a == b) (c == d) (eq-eqb a b e) (eq-eqb c d f)

module _ (x : OperationNet) where
  -- the node has as many nodes of the piece behind it as that of the line in the net of statements
  pub record IsTurnAt (j piece line : ℕ) : Type 0 where
    pub place : place_of x.net piece line < no_node x.net
    pub first : first_operation x piece ≤ j
    pub low : j < first_operation x piece + operation_node_count x piece
    pub behind : place_of x.net piece line + (first_operation x piece + operation_node_count x piece) ≡ (first_node x.net piece + node_count x.net piece) + j

  switch_turn : (j piece line : ℕ) → j < node_total x → operation_node x j ≡ Switch piece line → IsTurnAt j piece line
  switch_turn j piece line below is =
      let at : IsSwitchAt x j piece line = switch_at_node x j piece line below is in
      let place : place_of x.net piece line ≡ switch_number x.net piece line = switch_is_at x.net (switch_number x.net piece line) piece line at.below (statement_name x j piece line below is) in
      let number = at.number in
      let within = at.within in
      let statement = at.statement in
      let all = acting_count x piece at.acts in
      let high = at.below in
      record {
        place = omega (arith, place, high);
        first = omega (arith, number);
        low = omega (arith, number, within);
        behind = omega (arith, place, number, statement, all);
      }

  merge_turn : (j piece line : ℕ) → j < node_total x → operation_node x j ≡ Merge piece line → IsTurnAt j piece line
  merge_turn j piece line below is =
      let at : IsMergeAt x j piece line = merge_at_node x j piece line below is in
      let count : ℕ = passing_below (is_free x.net piece) line in
      let stands : slice_get (nodes_at x.net piece) count ≡ Some (Merge piece line) = merge_stands x piece line (kind_in x.net piece) at.joins at.low at.free in
      let inside : count < node_count x.net piece = get_within (nodes_at x.net piece) count (Merge piece line) stands in
      let there = node_below x.net piece count at.exists inside in
      let place : place_of x.net piece line ≡ first_node x.net piece + count = merge_is_at x.net (first_node x.net piece + count) piece line there (node_named x.net piece count (Merge piece line) at.exists stands) in
      let number : j ≡ first_operation x piece + count = at.number in
      let same : operation_node_count x piece ≡ node_count x.net piece = ap (λ names. length names) (nodes_same x piece at.idle) in
      record {
        place = omega (arith, place, there);
        first = omega (arith, number);
        low = omega (arith, number, inside, same);
        behind = omega (arith, place, number, same);
      }

  own_switch : (own other piece line : ℕ) → (own == piece && other == line) ≡ true → Switch own other ≡ Switch piece line
  own_switch own other piece line is =
      let both = and_parts (own == piece) (other == line) is in
      ap (λ (n : ℕ). Switch n other) (eqb-true own piece both.0) ∙ ap (λ (n : ℕ). Switch piece n) (eqb-true other line both.1)

  own_merge : (own other piece line : ℕ) → (own == piece && other == line) ≡ true → Merge own other ≡ Merge piece line
  own_merge own other piece line is =
      let both = and_parts (own == piece) (other == line) is in
      ap (λ (n : ℕ). Merge n other) (eqb-true own piece both.0) ∙ ap (λ (n : ℕ). Merge piece n) (eqb-true other line both.1)

  turn_by : (j piece line : ℕ) (name : NodeName) → j < node_total x → operation_node x j ≡ name → is_turn name piece line ≡ true → IsTurnAt j piece line
  turn_by j piece line (Switch own other) below named is = switch_turn j piece line below (named ∙ own_switch own other piece line is)
  turn_by j piece line (Merge own other) below named is = merge_turn j piece line below (named ∙ own_merge own other piece line is)
  turn_by j piece line (Op own i) below named is = absurd cc
  turn_by j piece line (Act own) below named is = absurd cc

  pub turn_at : (j piece line : ℕ) → j < node_total x → is_turn (operation_node x j) piece line ≡ true → IsTurnAt j piece line
  turn_at j piece line below is = turn_by j piece line (operation_node x j) below refl is

  -- what is looked up for the line at the piece: the number of its node in the net of statements, where it has one, and the node with
  -- as many others of the piece behind it
  pub record IsLookedUp (piece line n k : ℕ) : Type 0 where
    pub place : place_of x.net piece line < no_node x.net → n ≡ place_of x.net piece line
    pub node : (j : ℕ) → first_operation x piece ≤ j → j < first_operation x piece + operation_node_count x piece → n + (first_operation x piece + operation_node_count x piece) ≡ (first_node x.net piece + node_count x.net piece) + j → k ≡ j

  its_number : (piece line n k j : ℕ) → IsLookedUp piece line n k → j < node_total x → is_turn (operation_node x j) piece line ≡ true → k ≡ j
  its_number piece line n k j up below is =
      let at : IsTurnAt j piece line = turn_at j piece line below is in
      let place = up.place at.place in
      let behind = at.behind in
      up.node j at.first at.low (omega (arith, place, behind))

  module _ (facts : PlanFacts x) where
    -- ---- the line comes to a switch or a merge

    turn_before_by : (k piece line edge passed : ℕ) (name : NodeName) → k < node_total x → operation_node x k ≡ name → is_turn name piece line ≡ true → to (graph_in x.net) edge ≡ piece → IsNodeBefore x line (Some edge) passed k
    turn_before_by k piece line edge passed (Switch own other) below named is leads =
        named_before x facts k line (Some edge) passed (Switch piece line) below (named ∙ own_switch own other piece line is) (eq-eqb line line refl) (eq-eqb (to (graph_in x.net) edge) piece leads)
    turn_before_by k piece line edge passed (Merge own other) below named is leads =
        named_before x facts k line (Some edge) passed (Merge piece line) below (named ∙ own_merge own other piece line is) (eq-eqb line line refl) (eq-eqb (to (graph_in x.net) edge) piece leads)
    turn_before_by k piece line edge passed (Op own i) below named is leads = absurd cc
    turn_before_by k piece line edge passed (Act own) below named is leads = absurd cc

    pub turn_before : (k piece line edge passed : ℕ) → k < node_total x → is_turn (operation_node x k) piece line ≡ true → to (graph_in x.net) edge ≡ piece → IsNodeBefore x line (Some edge) passed k
    turn_before k piece line edge passed below is leads = turn_before_by k piece line edge passed (operation_node x k) below refl is leads

    -- ---- the line comes to an operation

    pub entry_before : (piece line edge n : ℕ) → piece < (graph_in x.net).nodes → IsEntry x piece line n → to (graph_in x.net) edge ≡ piece → IsNodeBefore x line (Some edge) 0 (first_operation x piece + n)
    entry_before piece line edge n exists entry leads =
        operation_before x facts piece n line (Some edge) 0 exists entry.inside entry.needs (eq-eqb (to (graph_in x.net) edge) piece leads) (sym entry.first)

    -- ---- the line comes to none

    module _ (piece line edge passed : ℕ) (leads : to (graph_in x.net) edge ≡ piece) (untouched : 0 < operation_count x piece → x.net.touches piece line ≡ false) (none : (j : ℕ) → j < node_total x → is_turn (operation_node x j) piece line ≡ true → ⊥) where
      own_piece : (p : ℕ) → (to (graph_in x.net) edge == p) ≡ true → p ≡ piece
      own_piece p is = sym (eqb-true (to (graph_in x.net) edge) p is) ∙ leads

      not_by : (j : ℕ) (name : NodeName) → j < node_total x → operation_node x j ≡ name → (goes_through x name line && stands_at x (Some edge) passed name line) ≡ true → ⊥
      not_by j (Op p i) below named is =
          let parts = and_parts (x.needs p i line) (leads_to (graph_in x.net) p (Some edge) && passed == needing_before x p i line) is in
          let same : p ≡ piece = own_piece p ((and_parts (to (graph_in x.net) edge == p) (passed == needing_before x p i line) parts.1).0) in
          let at : IsOperationAt x j p i = operation_at_node x j p i below named in
          let inside = at.inside in
          let touched : x.net.touches p line ≡ true = facts.touched p i line at.exists at.inside parts.0 in
          let some : 0 < operation_count x piece = subst (λ (n : ℕ). 0 < operation_count x n) same (omega (arith, inside)) in
          both_ways (x.net.touches piece line) (subst (λ (n : ℕ). x.net.touches n line ≡ true) same touched) (untouched some)
      not_by j (Switch p own) below named is =
          let parts = and_parts (own == line) (to (graph_in x.net) edge == p) is in
          none j below (ap (λ (n : NodeName). is_turn n piece line) named ∙ both_same p piece own line (own_piece p parts.1) (eqb-true own line parts.0))
      not_by j (Merge p own) below named is =
          let parts = and_parts (own == line) (to (graph_in x.net) edge == p) is in
          none j below (ap (λ (n : NodeName). is_turn n piece line) named ∙ both_same p piece own line (own_piece p parts.1) (eqb-true own line parts.0))
      not_by j (Act p) below named is = let e : false ≡ true = is in absurd cc

      not_before : (j : ℕ) → j < node_total x → (goes_through x (operation_node x j) line && stands_at x (Some edge) passed (operation_node x j) line) ≡ false
      not_before j below = by (cases_Bool (goes_through x (operation_node x j) line && stands_at x (Some edge) passed (operation_node x j) line))
        where
          by : ((goes_through x (operation_node x j) line && stands_at x (Some edge) passed (operation_node x j) line) ≡ true) ⊎ ((goes_through x (operation_node x j) line && stands_at x (Some edge) passed (operation_node x j) line) ≡ false) → (goes_through x (operation_node x j) line && stands_at x (Some edge) passed (operation_node x j) line) ≡ false
          by (inl is) = absurd (not_by j (operation_node x j) below refl is)
          by (inr is) = is

      pub no_turn : IsNodeBefore x line (Some edge) passed (node_total x)
      no_turn j below = not_before j below ∙ sym (ne_eqb j (node_total x) (λ e. omega (arith, below, e)))

    -- ---- the node that is looked up

    -- it is the one before which the line stands, if it is of that line
    pub before_turn : (piece line edge passed n k r : ℕ) → IsLookedUp piece line n k → (0 < operation_count x piece → x.net.touches piece line ≡ false) → to (graph_in x.net) edge ≡ piece → k < node_total x → r ≡ (if is_turn (operation_node x k) piece line then k else node_total x) → IsNodeBefore x line (Some edge) passed r
    before_turn piece line edge passed n k r up untouched leads below is = by (is_turn (operation_node x k) piece line) refl is
      where
        by : (b : Bool) → is_turn (operation_node x k) piece line ≡ b → r ≡ (if b then k else node_total x) → IsNodeBefore x line (Some edge) passed r
        by true own same = subst (λ (i : ℕ). IsNodeBefore x line (Some edge) passed i) (sym same) (turn_before k piece line edge passed below own leads)
        by false own same =
            subst (λ (i : ℕ). IsNodeBefore x line (Some edge) passed i) (sym same)
            (no_turn piece line edge passed leads untouched
            (λ j low turn.
            let e : k ≡ j = its_number piece line n k j up low turn in
            both_ways (is_turn (operation_node x j) piece line) turn (subst (λ (i : ℕ). is_turn (operation_node x i) piece line ≡ false) e own)))

    -- and there is none where no node has this number
    pub before_none : (piece line edge passed n k : ℕ) → IsLookedUp piece line n k → (0 < operation_count x piece → x.net.touches piece line ≡ false) → to (graph_in x.net) edge ≡ piece → node_total x ≤ k → IsNodeBefore x line (Some edge) passed (node_total x)
    before_none piece line edge passed n k up untouched leads high =
        no_turn piece line edge passed leads untouched (λ j low turn. let e : k ≡ j = its_number piece line n k j up low turn in omega (arith, e, low, high))

-- one of two numbers is at most the higher one
pub chosen_low : (b : Bool) (k total r : ℕ) → k < total → r ≡ (if b then k else total) → r ≤ total
chosen_low true k total r low is = omega (arith, low, is)
chosen_low false k total r low is = omega (arith, is)
