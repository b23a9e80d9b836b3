-- A test for whether a node is reached from another.
use Rattle.std.proofs.Common.{zero, suc}
use Rattle.std.specs.Prelude.{ℕ, Bool, false, ◌==◌, ◌&&◌, ◌||◌}
use Rattle.closed_walks.specs.Graph.{Graph, edge_count, from, to}

-- one of the numbers below k passes the test
abbrev pub any_below : ℕ → (ℕ → Bool) → Bool
any_below zero test = false
any_below (suc k) test = any_below k test || test k

-- a walk of at most so many edges leads from u to v
abbrev pub reaches_within : (most : ℕ) → Graph → (u v : ℕ) → Bool
reaches_within zero g u v = u == v
reaches_within (suc most) g u v = (u == v) || any_below (edge_count g) (λ e. (from g e == u) && reaches_within most g (to g e) v)

-- A walk leads from u to v: one that passes no node twice has fewer edges than the graph has nodes.
unfoldable pub reaches : Graph → (u v : ℕ) → Bool
reaches g u v = reaches_within g.nodes g u v
