-- Which lines are led to a piece, and where they stand before it.
use Rattle.std.proofs.Common.{◌≡◌, ℕ, zero, suc, ◌<◌, ◌≤◌, ◌⊎◌, ◌==◌, Bool, true, false, if◌then◌else◌, [], ◌∷◌, Some, sym, ap, ◌∙◌, subst, inl, inr, ⊎_elim, arith, eq-eqb, eqb-true}
use Rattle.std.proofs.lemmas.Bool.{and_from, or_right}
use Rattle.closed_walks.specs.Graph.{Graph, edge_count, from, to, touches, touching_below, edges_at}
use Rattle.f77_tree.specs.Execution.{Memory}
use Rattle.dep_routing.specs.Quiet.{IsFree}
use Rattle.dep_routing.specs.Routing.{wire_at}
use Rattle.net_board.specs.SoundNets.{IsNet}
use Rattle.net_board.specs.FlowFacts.{FlowFacts}
use Rattle.list_laws.specs.Member.{Member}
use Rattle.net_board.specs.NetLockstep.{IsBetween}
use Rattle.net_board.specs.Nodes.{NetOf, graph_in, comes_along, is_free}
use Rattle.net_board.specs.Tokens.{Tokens, edge_of}
use Rattle.list_laws.proofs.Members.{Member-left, Member-right, Member-cases, IsPassed, list_any_member, member_of_list_any}
use Rattle.std.proofs.lemmas.Bool.{and_parts}

-- ---- edges at a node

below : (g : Graph) (node k e : ℕ) → Member (touching_below g node k) e → e < k
below g node zero e m = absurd m
below g node (suc k) e m = ⊎_elim
    (λ (first : Member (touching_below g node k) e). let h = below g node k e first in omega (arith, h))
    (λ (last : Member (if touches g node k then k ∷ [] else []) e). by (touches g node k) last)
    (Member-cases (touching_below g node k) (if touches g node k then k ∷ [] else []) e m)
  where
    by : (b : Bool) → Member (if b then k ∷ [] else []) e → e < suc k
    by true (inl same) = omega (arith, same)
    by true (inr none) = absurd none
    by false none = absurd none

among : (g : Graph) (node k e : ℕ) → e < k → to g e ≡ node → Member (touching_below g node k) e
among g node zero e low ends = absurd (omega (arith, low))
among g node (suc k) e low ends = by (λ less. among g node k e less ends) (last e k (omega (arith, low)))
  where
    last : (e k : ℕ) → e ≤ k → (e < k) ⊎ (k ≡ e)
    last e k low = grind (arith, low)

    here : (b : Bool) → b ≡ true → k ≡ e → Member (if b then k ∷ [] else []) e
    here true is same = inl same
    here false is same = absurd cc

    by : (e < k → Member (touching_below g node k) e) → (e < k) ⊎ (k ≡ e) → Member (touching_below g node (suc k)) e
    by before (inl less) = Member-left (touching_below g node k) (if touches g node k then k ∷ [] else []) e (before less)
    by before (inr same) =
        let ends_here : (to g k == node) ≡ true = eq-eqb (to g k) node (ap (to g) same ∙ ends) in
        Member-right (touching_below g node k) (if touches g node k then k ∷ [] else []) e (here (touches g node k) (or_right (from g k == node) (to g k == node) ends_here) same)

below_count : (g : Graph) (node e : ℕ) → Member (edges_at g node) e → e < edge_count g
unfolding edges_at
below_count g node e m = below g node (edge_count g) e m

among_all : (g : Graph) (node e : ℕ) → e < edge_count g → to g e ≡ node → Member (edges_at g node) e
unfolding edges_at
among_all g node e low ends = among g node (edge_count g) e low ends

-- ---- free lines

module _ (net : NetOf) (is_net : IsNet net) where
  pub line_below : (line : ℕ) → line < net.routing.lines → line < suc (Rattle.alias_classes.specs.Classes.class_count is_net.classes)
  line_below line low = subst (λ (n : ℕ). line < n) is_net.own_routing.count low

  pub free_of_test : (node line : ℕ) → line < net.routing.lines → is_free net node line ≡ true → IsFree (graph_in net) is_net.tree net.touches line node
  free_of_test node line low is =
      let found : IsPassed (comes_along (graph_in net) net.routing node line) (edges_at (graph_in net) node) = member_of_list_any (comes_along (graph_in net) net.routing node line) (edges_at (graph_in net) node) is in
      let e = found.one in
      let ends : to (graph_in net) e ≡ node = eqb-true (to (graph_in net) e) node ((and_parts (to (graph_in net) e == node) (wire_at net.routing line e) found.passes).0) in
      let wire : wire_at net.routing line e ≡ true = (and_parts (to (graph_in net) e == node) (wire_at net.routing line e) found.passes).1 in
      subst (λ (x : ℕ). IsFree (graph_in net) is_net.tree net.touches line x) ends ((is_net.own_routing.wire line e (line_below line low) (below_count (graph_in net) node e found.among)).0 wire)

  pub test_of_free : (e node line : ℕ) → e < edge_count (graph_in net) → to (graph_in net) e ≡ node → line < net.routing.lines → IsFree (graph_in net) is_net.tree net.touches line node → is_free net node line ≡ true
  test_of_free e node line inside ends low free =
      let wire : wire_at net.routing line e ≡ true = (is_net.own_routing.wire line e (line_below line low) inside).1 (subst (λ (x : ℕ). IsFree (graph_in net) is_net.tree net.touches line x) (sym ends) free) in
      list_any_member (comes_along (graph_in net) net.routing node line) (edges_at (graph_in net) node) e (among_all (graph_in net) node e inside ends) (and_from (to (graph_in net) e == node) (wire_at net.routing line e) (eq-eqb (to (graph_in net) e) node ends) wire)

  -- a line that is led to the piece stands before it
  pub stands_before : (ground : FlowFacts net is_net.tree) (s : Tokens) (e node line : ℕ) (memory : Memory) → e < edge_count (graph_in net) → to (graph_in net) e ≡ node → IsBetween net is_net.tree s e memory → line < net.routing.lines → is_free net node line ≡ true → edge_of s line ≡ Some e
  stands_before ground s e node line memory inside ends between low is =
      let at = between.stand line low in
      let free : IsFree (graph_in net) is_net.tree net.touches line (to (graph_in net) e) = subst (λ (x : ℕ). IsFree (graph_in net) is_net.tree net.touches line x) (sym ends) (free_of_test node line low is) in
      let same : at.0 ≡ e = ground.one_place line e at.0 e (between.lines line at.0 low at.1) (ground.arrives line e inside free) in
      at.1 ∙ ap (λ (x : ℕ). Some x) same
