-- The edges of a graph in the order in which a search from the start comes to them. No public clause cites this module.
use Rattle.std.specs.Prelude.{◌≡◌, ℕ, ◌+◌, ◌<◌, ◌==◌, ◌↔◌, ◌⊎◌, Bool, true, false, List, [], ◌∷◌, ◌++◌, length, filter, set, slice_index_or}
use Rattle.closed_walks.specs.Graph.{Graph, edge_count, from, to, edges_at}
use Rattle.closed_walks.specs.Walk.{Holds}
use Rattle.closed_walks.specs.Cycle.{AllDiffer}
use Rattle.closed_walks.specs.Region.{IsGrown}

-- those of the edges that begin at the node
abbrev pub leaving : Graph → (node : ℕ) → List ℕ → List ℕ
leaving g node edges = filter (λ e. from g e == node) edges

-- the edges that begin at these nodes, node by node
abbrev pub edges_from : Graph → List ℕ → List ℕ
edges_from g [] = []
edges_from g (node ∷ nodes) = leaving g node (edges_at g node) ++ edges_from g nodes

-- All edges of the graph, each once, and each after edges that lead from the start to where it begins.
pub record IsScan (g : Graph) (edges : List ℕ) : Type 0 where
  pub exist : (e : ℕ) → Holds edges e → e < edge_count g
  pub all : (e : ℕ) → e < edge_count g → Holds edges e
  pub once : AllDiffer edges
  pub grown : IsGrown g edges

abbrev pub is_seen : List Bool → ℕ → Bool
is_seen seen node = slice_index_or seen node false

-- how many nodes aren't seen yet
abbrev pub unseen : List Bool → ℕ
unseen [] = 0
unseen (true ∷ seen) = unseen seen
unseen (false ∷ seen) = unseen seen + 1

-- The order has each node that is seen, once.
pub record IsOrder (g : Graph) (order : List ℕ) (seen : List Bool) : Type 0 where
  pub size : length seen ≡ g.nodes
  pub nodes : (v : ℕ) → Holds order v → v < g.nodes
  pub once : AllDiffer order
  pub marks : (v : ℕ) → (is_seen seen v ≡ true) ↔ Holds order v

-- where one of these edges ends
pub record IsHead (g : Graph) (edges : List ℕ) (v : ℕ) : Type 0 where
  pub edge : ℕ
  pub among : Holds edges edge
  pub ends : to g edge ≡ v

-- The nodes at which these edges end were put after the others of the order, where they weren't in it.
pub record Discovers (g : Graph) (edges : List ℕ) (before : List ℕ) (order : List ℕ) : Type 0 where
  pub more : List ℕ
  pub prefix : order ≡ before ++ more
  pub heads : (e : ℕ) → Holds edges e → Holds order (to g e)
  pub new : (v : ℕ) → Holds more v → IsHead g edges v

-- The node was put after the order, if it wasn't seen.
abbrev pub Finds : (node : ℕ) → (before : List Bool) → (first : List ℕ) → (seen : List Bool) → (order : List ℕ) → Type 0
Finds node before first seen order =
    ((is_seen before node ≡ true) × (seen ≡ before) × (order ≡ first)) ⊎ ((is_seen before node ≡ false) × (seen ≡ set before node true) × (order ≡ first ++ node ∷ []))
