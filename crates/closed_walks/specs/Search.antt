-- What a search for the nodes that are reached keeps. No public clause cites this module.
use Rattle.std.specs.Prelude.{◌≡◌, ◌≢◌, ℕ, ◌+◌, ◌<◌, ◌⊎◌, Bool, true, false, List, [], ◌∷◌, length, slice_index_or}
use Rattle.closed_walks.specs.Graph.{Graph, edge_count, from, to}
use Rattle.closed_walks.specs.Walk.{Holds}

abbrev pub is_visited : List Bool → ℕ → Bool
is_visited visited node = slice_index_or visited node false

-- how many nodes aren't visited yet
abbrev pub blanks : List Bool → ℕ
blanks [] = 0
blanks (true ∷ visited) = blanks visited
blanks (false ∷ visited) = blanks visited + 1

-- an edge other than `without` leads from u to v
pub record Leads (g : Graph) (without u v : ℕ) : Type 0 where
  pub edge : ℕ
  pub exists : edge < edge_count g
  pub other : edge ≢ without
  pub begins : from g edge ≡ u
  pub ends : to g edge ≡ v

-- The nodes of the frontier are visited, and an edge other than `without` that leads from a visited node to one that isn't
-- begins in the frontier, or is one of the rest.
pub record IsOpen (g : Graph) (without : ℕ) (visited : List Bool) (frontier : List ℕ) (rest : ℕ → Type 0) : Type 0 where
  pub nodes : length visited ≡ g.nodes
  pub waiting : (node : ℕ) → Holds frontier node → is_visited visited node ≡ true
  pub leaving : (e : ℕ) → e < edge_count g → e ≢ without → is_visited visited (from g e) ≡ true → is_visited visited (to g e) ≡ false → Holds frontier (from g e) ⊎ rest e

-- no edge
abbrev pub Nothing : ℕ → Type 0
Nothing e = ⊥
