-- How the classes of edges are numbered.
use Rattle.std.specs.Prelude.{◌≡◌, ◌≢◌, ℕ, ◌+◌, ◌<◌, ◌↔◌, List, [], ◌∷◌, length, take, slice_index}
use Rattle.std.proofs.Common.{max}
use Rattle.closed_walks.specs.Graph.{Graph, edge_count}
use Rattle.closed_walks.specs.Walk.{IsCycleEquivalent}

-- the least number above all of these
abbrev pub fresh : List ℕ → ℕ
fresh [] = 0
fresh (x ∷ xs) = max (x + 1) (fresh xs)

-- One number for each edge: the same for two edges exactly where they are cycle equivalent. An edge that no lower one is
-- equivalent to has the least number above those of the lower edges, so that the classes are numbered in the order of their
-- lowest edges.
pub record IsNumbering (g : Graph) (classes : List ℕ) : Type 0 where
  pub edges : length classes ≡ edge_count g
  pub same : (a b : ℕ) → a < edge_count g → b < edge_count g → (slice_index classes a ≡ slice_index classes b) ↔ IsCycleEquivalent g a b
  pub lowest : (e : ℕ) → e < edge_count g → ((d : ℕ) → d < e → slice_index classes d ≢ slice_index classes e) → slice_index classes e ≡ fresh (take e classes)
