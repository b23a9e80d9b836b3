-- What a `Digraph` keeps.
use Rattle.std.specs.Prelude.{◌≡◌, ℕ, ◌<◌, ◌^◌, List, [], length, slice_index_or}
use Rattle.closed_walks.specs.Graph.{Graph, IsGraph, edge_count, edges_at}
use Rattle.closed_walks.specs.declared.digraph.Digraph.TheInside.{Inside}

abbrev pub graph_of : Inside → Graph
graph_of d = record { nodes = length d.touching.items; edges = d.ends.items }

-- the edges end at nodes, and each node has the list of the edges that touch it
pub record Keeps (g : Graph) (kept : List (List ℕ)) : Type 0 where
  pub few_nodes : g.nodes < 2 ^ 32
  pub few_edges : edge_count g < 2 ^ 31
  pub sound : IsGraph g
  pub nodes : length kept ≡ g.nodes
  pub lists : (node : ℕ) → slice_index_or kept node [] ≡ edges_at g node

abbrev pub IsKept : Inside → Type 0
IsKept d = Keeps (graph_of d) d.touching.items
