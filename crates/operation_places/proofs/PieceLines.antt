-- The lines that the nodes of a piece move, node by node.
use Rattle.std.proofs.Common.{◌≡◌, ◌<◌, ◌≤◌, ℕ, zero, suc, ◌+◌, ◌-◌, ◌++◌, List, [], ◌∷◌, length, drop, flat_map, Option, Some, None, slice_get, slice_set, refl, sym, ap, ◌∙◌, subst, arith, drop_of_length-le}
use Rattle.firing.specs.declared.system.NodeName.{NodeName}
use Rattle.firing.specs.declared.system.NodeName.TheVariants.{Act, Merge, Switch}
use Rattle.net_board.specs.Nodes.{NetOf, first_node, graph_in, node_at, node_count, nodes_at, nodes_of}
use Rattle.net_board.specs.Tokens.{led_from, with_all}
use Rattle.net_board.specs.WithinPiece.{moved_by}
use Rattle.net_board.proofs.ListPrefixes.{HasItem, item_at}
use Rattle.net_board.proofs.NodeLaws.{IsNamed, named}
use Rattle.net_board.proofs.PieceSteps.{node_named}
use Rattle.op_board.specs.WholePieces.{lines_moved_at}

pub with_all_append : (values : List (Option ℕ)) (xs ys : List ℕ) (value : ℕ → Option ℕ) → with_all values (xs ++ ys) value ≡ with_all (with_all values xs value) ys value
with_all_append values [] ys value = refl
with_all_append values (x ∷ xs) ys value = with_all_append (slice_set values x (value x)) xs ys value

-- what is left of a list from the place of an item on
pub left_from : {A : Type 0} (xs : List A) (j : ℕ) (x : A) → slice_get xs j ≡ Some x → drop j xs ≡ x ∷ drop (suc j) xs
left_from [] j x at = let e : None ≡ Some x = at in absurd cc
left_from (y ∷ xs) zero x at = by at
  where
    by : Some y ≡ Some x → (y ∷ xs) ≡ (x ∷ xs)
    by same = cc
left_from (y ∷ xs) (suc j) x at = left_from xs j x at

module _ (net : NetOf) (piece edge : ℕ) where
  abbrev pub left : (from : ℕ) → List NodeName
  left from = drop from (nodes_at net piece)

  abbrev pub led : List (Option ℕ) → List NodeName → List (Option ℕ)
  led lines nodes = with_all lines (flat_map (moved_by net) nodes) (led_from net edge)

  left_nodes : (k : ℕ) → piece < (graph_in net).nodes → first_node net piece ≤ k → k < first_node net piece + node_count net piece → left (k - first_node net piece) ≡ node_at net k ∷ left (k + 1 - first_node net piece)
  left_nodes k exists low high =
      let j : ℕ = k - first_node net piece in
      let r : HasItem (nodes_at net piece) j = item_at (nodes_at net piece) j (omega (arith, low, high)) in
      let number : first_node net piece + j ≡ k = omega (arith, low) in
      let name : node_at net k ≡ r.item = ap (node_at net) (sym number) ∙ node_named net piece j r.item exists r.at in
      let next : suc j ≡ k + 1 - first_node net piece = omega (arith, low) in
      left_from (nodes_at net piece) j r.item r.at ∙ ap (λ n. n ∷ left (suc j)) (sym name) ∙ ap (λ from. node_at net k ∷ left from) next

  -- all nodes
  pub led_begin : (k : ℕ) (lines : List (Option ℕ)) → k ≡ first_node net piece → led lines (left (k - first_node net piece)) ≡ with_all lines (lines_moved_at net piece) (led_from net edge)
  led_begin k lines is = let none : k - first_node net piece ≡ 0 = omega (arith, is) in ap (λ from. led lines (left from)) none

  -- one node more
  pub led_next : (k : ℕ) (old new goal : List (Option ℕ)) → piece < (graph_in net).nodes → first_node net piece ≤ k → k < first_node net piece + node_count net piece → new ≡ with_all old (moved_by net (node_at net k)) (led_from net edge) → led old (left (k - first_node net piece)) ≡ goal → led new (left (k + 1 - first_node net piece)) ≡ goal
  led_next k old new goal exists low high made so =
      ap (λ lines. led lines (left (k + 1 - first_node net piece))) made
      ∙ sym (with_all_append old (moved_by net (node_at net k)) (flat_map (moved_by net) (left (k + 1 - first_node net piece))) (led_from net edge))
      ∙ ap (led old) (sym (left_nodes k exists low high))
      ∙ so

  -- and none
  pub led_end : (k : ℕ) (lines goal : List (Option ℕ)) → first_node net piece + node_count net piece ≤ k → led lines (left (k - first_node net piece)) ≡ goal → lines ≡ goal
  led_end k lines goal past so =
      ap (led lines) (sym (drop_of_length-le (nodes_at net piece) (omega (arith, past)))) ∙ so

-- ---- what nodes move exists

module _ (net : NetOf) (k : ℕ) (below : k < length (nodes_of net)) where
  named_as : (name : NodeName) → node_at net k ≡ name → IsNamed net name
  named_as name is = subst (λ (n : NodeName). IsNamed net n) is (named net k below)

  pub act_exists : (piece : ℕ) → node_at net k ≡ Act piece → piece < (graph_in net).nodes
  act_exists piece is = (named_as (Act piece) is).exists

  pub switch_line : (piece line : ℕ) → node_at net k ≡ Switch piece line → line < net.routing.lines
  switch_line piece line is = (named_as (Switch piece line) is).fits.2

  pub merge_line : (piece line : ℕ) → node_at net k ≡ Merge piece line → line < net.routing.lines
  merge_line piece line is = (named_as (Merge piece line) is).fits.2
