-- Ways that need not end, and the cycles that they come to.
use Rattle.std.specs.Prelude.{◌≡◌, ℕ, ◌<◌}
use Rattle.closed_walks.specs.Graph.{Graph, edge_count, from, to}
use Rattle.closed_walks.specs.Walk.{Reach, no_edge}

-- an edge leaves each node that is reached from u
abbrev pub GoesOn : Graph → ℕ → Type 0
GoesOn g u = (v : ℕ) → Reach g no_edge u v → (e : ℕ) × (e < edge_count g) × (from g e ≡ v)

-- an edge that closes a cycle, whose end is reached from u
pub record MeetsCycle (g : Graph) (u : ℕ) : Type 0 where
  pub edge : ℕ
  pub exists : edge < edge_count g
  pub leads : Reach g no_edge u (to g edge)
  pub returns : Reach g no_edge (to g edge) (from g edge)
