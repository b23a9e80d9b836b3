-- Which lines are led to a node, which of them pass it, and which bypass the region that an edge enters: by the table of wires alone.
use Rattle.std.specs.Prelude.{ℕ, ◌&&◌, ◌==◌, Bool, not}
use Rattle.std.specs.List.{list_any}
use Rattle.closed_walks.specs.Graph.{Graph, edges_at, from, to}
use Rattle.dep_routing.specs.Routing.{Routing, wire_at}

-- the edge leads to the node, and is a wire of the line
abbrev pub comes_along : Graph → Routing → (node line edge : ℕ) → Bool
comes_along g r node line edge = (to g edge == node) && wire_at r line edge

-- The line is led to the node: an edge to it is a wire of the line, as then each one is.
abbrev pub is_free : Graph → Routing → (node line : ℕ) → Bool
is_free g r node line = list_any (comes_along g r node line) (edges_at g node)

-- the line is led to the node, which doesn't touch it
abbrev pub is_passing : Graph → Routing → (touches : ℕ → ℕ → Bool) → (node line : ℕ) → Bool
is_passing g r touches node line = is_free g r node line && not (touches node line)

-- The line is led to the node at which the edge begins, and no further along it: it bypasses the region that the edge enters.
abbrev pub is_bypass : Graph → Routing → (edge line : ℕ) → Bool
is_bypass g r edge line = is_free g r (from g edge) line && not (wire_at r line edge)
