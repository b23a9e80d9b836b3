-- How many nodes a net has.
use Rattle.std.proofs.Common.{◌≡◌, ◌<◌, ◌≤◌, ◌^◌, ℕ, zero, suc, ◌+◌, ◌*◌, ◌&&◌, Bool, not, List, [], ◌∷◌, length, filter, ap, ◌∙◌, length-append, arith}
use Rattle.std.proofs.lemmas.List.{length-map}
use Rattle.std.proofs.lemmas.List.FromFn.{length-range_with_len}
use Rattle.cfg_build.specs.declared.pieces.PieceKind.{PieceKind}
use Rattle.cfg_build.specs.declared.pieces.PieceKind.TheVariants as kind
use Rattle.firing.specs.declared.system.NodeName.TheVariants.{Merge, Switch}
use Rattle.net_board.specs.Nodes.{NetOf, graph_in, kind_in, all_lines, is_free, led_to, passing, nodes_by, nodes_at, nodes_below}
use Rattle.net_tables.proofs.TableLemmas.{flat_map_next}

filtered : (test : ℕ → Bool) (xs : List ℕ) → length (filter test xs) ≤ length xs
filtered test [] = omega arith
filtered test (x ∷ xs) = grind (arith, filtered test xs)

module _ (net : NetOf) (few : net.routing.lines ≤ 1024) where
  passing_few : (piece : ℕ) → length (passing net piece) ≤ 1024
  passing_few piece = omega (arith, few, filtered (λ line. is_free net piece line && not (net.touches piece line)) (all_lines net), length-range_with_len 0 net.routing.lines)

  led_few : (piece : ℕ) → length (led_to net piece) ≤ 1024
  led_few piece = omega (arith, few, filtered (is_free net piece) (all_lines net), length-range_with_len 0 net.routing.lines)

  -- a node for what the piece does, and one for each line
  pub by_few : (piece : ℕ) (k : PieceKind) → length (nodes_by net piece k) ≤ 1025
  by_few piece kind.Act = omega arith
  by_few piece kind.Branch = omega (arith, passing_few piece, length-map (passing net piece) (Switch piece))
  by_few piece kind.Hold = omega (arith, passing_few piece, length-map (passing net piece) (Switch piece))
  by_few piece kind.Join = omega (arith, led_few piece, length-map (led_to net piece) (Merge piece))
  by_few piece kind.End = omega (arith, led_few piece, length-map (led_to net piece) (Merge piece))
  by_few piece _ = omega arith

  below_few : (n : ℕ) → length (nodes_below net n) ≤ n * 1025
  below_few zero = omega arith
  below_few (suc n) = next (length (nodes_below net (suc n))) (length (nodes_below net n)) (length (nodes_at net n)) n (ap length (ap (nodes_below net) (plus n) ∙ flat_map_next (nodes_at net) n) ∙ length-append (nodes_below net n) (nodes_at net n)) (below_few n) (by_few n (kind_in net n))
    where
      plus : (k : ℕ) → suc k ≡ k + 1
      plus k = omega arith

      next : (all low here k : ℕ) → all ≡ low + here → low ≤ k * 1025 → here ≤ 1025 → all ≤ suc k * 1025
      next all low here k is below few = omega (arith, is, below, few)

  -- the nodes of a few pieces can be numbered
  pub few_below : (n : ℕ) → n ≤ (graph_in net).nodes → (graph_in net).nodes ≤ 160008 → length (nodes_below net n) < 2 ^ 32
  few_below n within pieces = omega (arith, within, pieces, below_few n)
