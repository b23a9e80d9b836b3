-- Nodes on cycles that avoid some edges.
use Rattle.std.specs.Prelude.{ℕ, Bool, List, ◌∷◌}
use Rattle.closed_walks.specs.Graph.{Graph}
use Rattle.closed_walks.specs.Walk.{Walk, Avoids}

-- some edges, at least one, lead from the node back to it, and none of them is avoided
pub record IsOnCycle (g : Graph) (avoided : ℕ → Bool) (node : ℕ) : Type 0 where
  pub first : ℕ
  pub rest : List ℕ
  pub closed : Walk g node (first ∷ rest) node
  pub avoids : Avoids avoided (first ∷ rest)
