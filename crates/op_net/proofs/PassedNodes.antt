-- Before which node a line stands that has passed operations of a piece which need it, and the next one of those.
use Rattle.std.proofs.Common.{◌≡◌, ◌<◌, ◌⊎◌, inl, inr, ℕ, ◌+◌, ◌-◌, ◌&&◌, ◌==◌, true, false, length, filter, Some, None, slice_get, refl, sym, ap, ◌∙◌, subst, arith}
use Rattle.std.specs.List.{range_with_len}
use Rattle.std.proofs.lemmas.Bool.{and_parts, cases_Bool, eqb-true, eq-eqb, ne_eqb}
use Rattle.closed_walks.specs.Graph.{to}
use Rattle.firing.specs.declared.system.NodeName.{NodeName}
use Rattle.firing.specs.declared.system.NodeName.TheVariants.{Act, Merge, Switch, Op}
use Rattle.net_board.specs.Nodes.{graph_in, is_acting, kind_in}
use Rattle.net_board.specs.Tokens.{leads_to}
use Rattle.net_board.proofs.NodeNumbers.{among}
use Rattle.operation_tables.specs.PlanFacts.{PlanFacts}
use Rattle.op_board.specs.OperationNets.{OperationNet, first_operation, needing_before, operation_count, operation_node}
use Rattle.op_board.proofs.FiringOperations.{both_ways}
use Rattle.op_net.specs.ApartLoads.{needing}
use Rattle.operation_tables.specs.Waits.{IsNodeBefore, goes_through, node_total, stands_at}
use Rattle.op_net.proofs.ApartNets.{IsPassing, passing_at}
use Rattle.operation_tables.proofs.NodeNames.{IsMergeAt, IsOperationAt, IsSwitchAt, acts_where, merge_at_node, operation_at_node, switch_at_node}
use Rattle.operation_tables.proofs.NodesBefore.{operation_before}

module _ (x : OperationNet) (facts : PlanFacts x) where
  -- the operation that the line has come to
  pub numbered_before : (piece line edge passed i : ℕ) → piece < (graph_in x.net).nodes → to (graph_in x.net) edge ≡ piece → slice_get (needing x piece line) passed ≡ Some i → IsNodeBefore x line (Some edge) passed (first_operation x piece + i)
  numbered_before piece line edge passed i exists leads at =
      let is : IsPassing (λ n. x.needs piece n line) 0 (operation_count x piece) passed i = passing_at (λ n. x.needs piece n line) 0 (operation_count x piece) passed i at in
      let high = is.high in
      let whole : i - 0 ≡ i = omega arith in
      let before : needing_before x piece i line ≡ passed = ap (λ n. length (filter (λ n. x.needs piece n line) (range_with_len 0 n))) (sym whole) ∙ is.before in
      operation_before x facts piece i line (Some edge) passed exists (omega (arith, high)) is.passes (eq-eqb (to (graph_in x.net) edge) piece leads) (sym before)

  -- a line that has passed all of them stands before none
  module _ (piece line edge passed : ℕ) (leads : to (graph_in x.net) edge ≡ piece) (some : 0 < operation_count x piece) (touched : x.net.touches piece line ≡ true) (none : slice_get (needing x piece line) passed ≡ None) where
    own_piece : (p : ℕ) → (to (graph_in x.net) edge == p) ≡ true → p ≡ piece
    own_piece p is = sym (eqb-true (to (graph_in x.net) edge) p is) ∙ leads

    no_operation : (i : ℕ) → i < operation_count x piece → x.needs piece i line ≡ true → passed ≡ needing_before x piece i line → ⊥
    no_operation i inside needs same =
        let both : None ≡ Some i = sym none ∙ ap (slice_get (needing x piece line)) same ∙ among (λ n. x.needs piece n line) (operation_count x piece) i inside needs in
        cc

    not_by : (j : ℕ) (name : NodeName) → j < node_total x → operation_node x j ≡ name → (goes_through x name line && stands_at x (Some edge) passed name line) ≡ true → ⊥
    not_by j (Op p i) below named is =
        let parts = and_parts (x.needs p i line) (leads_to (graph_in x.net) p (Some edge) && passed == needing_before x p i line) is in
        let two = and_parts (to (graph_in x.net) edge == p) (passed == needing_before x p i line) parts.1 in
        let same : p ≡ piece = own_piece p two.0 in
        let at : IsOperationAt x j p i = operation_at_node x j p i below named in
        no_operation i (subst (λ (n : ℕ). i < operation_count x n) same at.inside) (subst (λ (n : ℕ). x.needs n i line ≡ true) same parts.0) (eqb-true passed (needing_before x p i line) two.1 ∙ ap (λ n. needing_before x n i line) same)
    not_by j (Switch p own) below named is =
        let parts = and_parts (own == line) (to (graph_in x.net) edge == p) is in
        let at : IsSwitchAt x j p own = switch_at_node x j p own below named in
        both_ways (x.net.touches piece line) touched (ap (λ n. x.net.touches n line) (sym (own_piece p parts.1)) ∙ ap (x.net.touches p) (sym (eqb-true own line parts.0)) ∙ at.untouched)
    not_by j (Merge p own) below named is =
        let parts = and_parts (own == line) (to (graph_in x.net) edge == p) is in
        let at : IsMergeAt x j p own = merge_at_node x j p own below named in
        both_ways (is_acting (kind_in x.net piece)) (acts_where x piece 0 some) (ap (λ n. is_acting (kind_in x.net n)) (sym (own_piece p parts.1)) ∙ at.idle)
    not_by j (Act p) below named is = let e : false ≡ true = is in absurd cc

    not_before : (j : ℕ) → j < node_total x → (goes_through x (operation_node x j) line && stands_at x (Some edge) passed (operation_node x j) line) ≡ false
    not_before j below = by (cases_Bool (goes_through x (operation_node x j) line && stands_at x (Some edge) passed (operation_node x j) line))
      where
        by : ((goes_through x (operation_node x j) line && stands_at x (Some edge) passed (operation_node x j) line) ≡ true) ⊎ ((goes_through x (operation_node x j) line && stands_at x (Some edge) passed (operation_node x j) line) ≡ false) → (goes_through x (operation_node x j) line && stands_at x (Some edge) passed (operation_node x j) line) ≡ false
        by (inl is) = absurd (not_by j (operation_node x j) below refl is)
        by (inr is) = is

    pub none_numbered : IsNodeBefore x line (Some edge) passed (node_total x)
    none_numbered j below = not_before j below ∙ sym (ne_eqb j (node_total x) (λ e. omega (arith, below, e)))
