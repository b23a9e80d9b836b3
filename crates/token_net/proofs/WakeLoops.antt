-- The nodes that are named while lines are gone through.
use Rattle.std.proofs.Common.{◌≡◌, ◌<◌, ◌≤◌, ◌+◌, ◌-◌, ◌⊎◌, inl, inr, ℕ, suc, List, get_or, Contains, Option, Some, None, sym, subst, arith}
use Rattle.std.specs.List.{range_with_len}
use Rattle.closed_walks.specs.Graph.{to}
use Rattle.list_laws.specs.Member.{Member}
use Rattle.net_board.specs.Nodes.{NetOf, graph_in}
use Rattle.net_board.specs.TokenEdges.{edge_at}
use Rattle.net_board.specs.WokenNodes.{HasNext, no_node, place_of}
use Rattle.list_laws.proofs.Members.{Member-in_range, IsAt, at_of}
use Rattle.net_board.proofs.ListPlaces.{same_or_not}
use Rattle.token_net.specs.WokenList.{Keeps}

module _ (net : NetOf) where
  module _ (woken : List ℕ) (line edge piece k : ℕ) (o : Option ℕ) (stands : o ≡ Some edge) (comes : piece ≡ to (graph_in net) edge) (is : place_of net piece line < no_node net → k ≡ place_of net piece line) where
    at : place_of net (to (graph_in net) edge) line < no_node net → k ≡ place_of net (to (graph_in net) edge) line
    at = subst (λ p. place_of net p line < no_node net → k ≡ place_of net p line) comes is

    pub next_has : Contains woken k → HasNext net woken line o
    next_has has = subst (HasNext net woken line) (sym stands) (λ node. subst (Contains woken) (at node) has)

    pub next_past : no_node net ≤ k → HasNext net woken line o
    next_past past = subst (HasNext net woken line) (sym stands) (λ node. let same = at node in absurd (omega (arith, node, past, same)))

  pub next_lost : (woken : List ℕ) (line : ℕ) (o : Option ℕ) → o ≡ None → HasNext net woken line o
  next_lost woken line o lost = subst (HasNext net woken line) (sym lost) tt

  pub next_kept : (old new : List ℕ) (line : ℕ) (o : Option ℕ) → Keeps old new → HasNext net old line o → HasNext net new line o
  next_kept old new line None keeps has = tt
  next_kept old new line (Some edge) keeps has = λ node. keeps (place_of net (to (graph_in net) edge) line) (has node)

  module _ (lines : List (Option ℕ)) (moved : List ℕ) where
    abbrev HasAt : List ℕ → ℕ → Type 0
    HasAt woken j = HasNext net woken (get_or moved j 0) (edge_at lines (get_or moved j 0))

    pub lines_more : (old new : List ℕ) (i : ℕ) → Keeps old new → ((j : ℕ) → j < i → HasNext net old (get_or moved j 0) (edge_at lines (get_or moved j 0))) → HasNext net new (get_or moved i 0) (edge_at lines (get_or moved i 0)) → (j : ℕ) → j < i + 1 → HasNext net new (get_or moved j 0) (edge_at lines (get_or moved j 0))
    lines_more old new i keeps has here j low = by (same_or_not j i)
      where
        by : (j ≡ i) ⊎ (j ≡ i → ⊥) → HasAt new j
        by (inl e) = subst (HasAt new) (sym e) here
        by (inr n) = next_kept old new (get_or moved j 0) (edge_at lines (get_or moved j 0)) keeps (has j (omega (arith, low, n)))

    pub lines_all : (woken : List ℕ) → ((j : ℕ) → j < Rattle.std.proofs.Common.length moved → HasNext net woken (get_or moved j 0) (edge_at lines (get_or moved j 0))) → (line : ℕ) → Member moved line → HasNext net woken line (edge_at lines line)
    lines_all woken has line m =
        let r : IsAt moved line = at_of moved line m in
        subst (λ l. HasNext net woken l (edge_at lines l)) (r.is 0) (has r.place r.exists)

pub row_more : (old new : List ℕ) (first k : ℕ) → Keeps old new → ((j : ℕ) → first < j → j < k → Contains old j) → Contains new k → (j : ℕ) → first < j → j < k + 1 → Contains new j
row_more old new first k keeps has here j low high = by (same_or_not j k)
  where
    by : (j ≡ k) ⊎ (j ≡ k → ⊥) → Contains new j
    by (inl e) = subst (Contains new) (sym e) here
    by (inr n) = keeps j (has j low (omega (arith, high, n)))

pub row_all : (woken : List ℕ) (first end k : ℕ) → first < end → end ≤ k → ((j : ℕ) → first < j → j < k → Contains woken j) → (j : ℕ) → Member (range_with_len (suc first) (end - suc first)) j → Contains woken j
row_all woken first end k some past has j m =
    let r = Member-in_range (suc first) (end - suc first) j m in
    let low = r.0 in
    let high = r.1 in
    has j (omega (arith, low)) (omega (arith, high, some, past))
