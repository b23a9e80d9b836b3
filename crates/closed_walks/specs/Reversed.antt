-- A graph with each edge turned round. No public clause cites this module.
use Rattle.std.specs.Prelude.{◌≡◌, ℕ, ◌<◌, map}
use Rattle.closed_walks.specs.Graph.{Graph, edge_count, from, to}

pub record IsReversed (g back : Graph) : Type 0 where
  pub nodes : back.nodes ≡ g.nodes
  pub edges : edge_count back ≡ edge_count g
  pub begins : (e : ℕ) → e < edge_count back → from back e ≡ to g e
  pub ends : (e : ℕ) → e < edge_count back → to back e ≡ from g e

-- the graph with each edge turned round
unfoldable pub turned : Graph → Graph
turned g = record { nodes = g.nodes; edges = map (λ edge. (edge.1, edge.0)) g.edges }
