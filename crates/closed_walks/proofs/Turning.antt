-- The graph with each edge turned round.
use Rattle.std.proofs.Common.{◌≡◌, ℕ, zero, suc, Bool, ◌||◌, ◌==◌, List, [], ◌∷◌, get_or, map, refl, ap, ◌∙◌}
use Rattle.std.proofs.lemmas.List.{length-map}
use Rattle.closed_walks.specs.Graph.{Graph, edge_count, from, to, touches, touching_below, edges_at}
use Rattle.closed_walks.specs.Walk.{Reach, no_edge}
use Rattle.closed_walks.specs.Reversed.{IsReversed, turned}
use Rattle.closed_walks.proofs.Reversals.{Reach-turned, IsReversed-back}
use Rattle.std.proofs.Common.{arith}

abbrev swapped : ℕ × ℕ → ℕ × ℕ
swapped edge = (edge.1, edge.0)

get_or-swapped : (xs : List (ℕ × ℕ)) (e : ℕ) → get_or (map swapped xs) e (0, 0) ≡ swapped (get_or xs e (0, 0))
get_or-swapped [] e = refl
get_or-swapped (x ∷ xs) zero = refl
get_or-swapped (x ∷ xs) (suc e) = get_or-swapped xs e

or_swap : (a b : Bool) → (a || b) ≡ (b || a)
or_swap h h2 = grind arith

module _ (g : Graph) where
  pub from-turned : (e : ℕ) → from (turned g) e ≡ to g e
  unfolding from to turned
  from-turned e = ap (λ (p : ℕ × ℕ). p.0) (get_or-swapped g.edges e)

  pub to-turned : (e : ℕ) → to (turned g) e ≡ from g e
  unfolding from to turned
  to-turned e = ap (λ (p : ℕ × ℕ). p.1) (get_or-swapped g.edges e)

  pub nodes-turned : (turned g).nodes ≡ g.nodes
  unfolding turned
  nodes-turned = refl

  pub edge_count-turned : edge_count (turned g) ≡ edge_count g
  unfolding turned
  edge_count-turned = length-map g.edges (λ edge. (edge.1, edge.0))

  pub IsReversed-turned : IsReversed g (turned g)
  IsReversed-turned = grind (arith, nodes-turned, edge_count-turned, from-turned, to-turned)

  touches-turned : (node e : ℕ) → touches (turned g) node e ≡ touches g node e
  touches-turned node e = ap (λ n. (n == node) || (to (turned g) e == node)) (from-turned e) ∙ (ap (λ n. (to g e == node) || (n == node)) (to-turned e) ∙ or_swap (to g e == node) (from g e == node))

  touching-turned : (node k : ℕ) → touching_below (turned g) node k ≡ touching_below g node k
  touching-turned node zero = refl
  touching-turned node (suc k) = rw (touches-turned node k, touching-turned node k) refl

  pub edges_at-turned : (node : ℕ) → edges_at (turned g) node ≡ edges_at g node
  unfolding edges_at
  edges_at-turned node = ap (touching_below (turned g) node) edge_count-turned ∙ touching-turned node (edge_count g)

  pub Reach-to_turned : (u v : ℕ) → Reach g no_edge u v → Reach (turned g) no_edge v u
  Reach-to_turned u v way = Reach-turned g (turned g) IsReversed-turned u v way

  pub Reach-from_turned : (u v : ℕ) → Reach (turned g) no_edge u v → Reach g no_edge v u
  Reach-from_turned u v way = Reach-turned (turned g) g (IsReversed-back g (turned g) IsReversed-turned) u v way
