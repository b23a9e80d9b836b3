-- A directed graph: its nodes are the numbers below `nodes`, and its edges have the numbers of their places.
-- Several edges may lead from one node to another, and an edge may lead back to the node at which it begins.
use Rattle.std.proofs.Common.{zero, suc}
use Rattle.std.specs.Prelude.{ℕ, ◌<◌, Bool, ◌==◌, ◌||◌, if◌then◌else◌, List, [], ◌∷◌, ◌++◌, length, slice_index_or}

pub record Graph : Type 0 where
  pub nodes : ℕ
  -- where each edge begins, and where it ends
  pub edges : List (ℕ × ℕ)

abbrev pub edge_count : Graph → ℕ
edge_count g = length g.edges

-- the node at which an edge begins
unfoldable pub from : Graph → ℕ → ℕ
from g e = (slice_index_or g.edges e (0, 0)).0

-- the node at which an edge ends
unfoldable pub to : Graph → ℕ → ℕ
to g e = (slice_index_or g.edges e (0, 0)).1

-- each edge begins and ends at nodes of the graph
pub record IsGraph (g : Graph) : Type 0 where
  pub begins : (e : ℕ) → e < edge_count g → from g e < g.nodes
  pub ends : (e : ℕ) → e < edge_count g → to g e < g.nodes

-- the graph with one edge more, whose number is the count of the edges before
abbrev pub with_edge : Graph → (u v : ℕ) → Graph
with_edge g u v = record { nodes = g.nodes; edges = g.edges ++ (u, v) ∷ [] }

-- an edge touches the node at which it begins, and that at which it ends
abbrev pub touches : Graph → (node e : ℕ) → Bool
touches g node e = (from g e == node) || (to g e == node)

-- the edges below k that touch the node, in the order of their numbers, each once
abbrev pub touching_below : Graph → (node k : ℕ) → List ℕ
touching_below g node zero = []
touching_below g node (suc k) = touching_below g node k ++ (if touches g node k then k ∷ [] else [])

-- the edges that touch the node
unfoldable pub edges_at : Graph → ℕ → List ℕ
edges_at g node = touching_below g node (edge_count g)
