-- The edges of a flow graph that a table keeps. No public clause cites this module.
use Rattle.std.specs.Prelude.{◌≡◌, ◌<◌, ℕ, Bool, false, ◌==◌, ◌&&◌, not, if◌then◌else◌, List, slice_index}
use Rattle.op_table.specs.Trips.{at_least_zero}
use Rattle.closed_walks.specs.Graph.{Graph, edge_count, from, to}
use Rattle.cfg_build.specs.Joined.{FlowGraph}
use Rattle.cfg_build.specs.Passes.{outs}
use Rattle.cfg_build.specs.Shape.{kind_at}
use Rattle.const_prop.specs.declared.known.Known.{Known}
use Rattle.const_prop.specs.declared.known.Known.TheVariants.{One}
use Rattle.const_prop.specs.Closed.{is_switch}
use Rattle.const_prop.specs.Table.{Knowns}

-- one of these out-edges is decided, and it isn't this edge
abbrev pub is_other_of : (outs : List ℕ) → Known → (e : ℕ) → Bool
is_other_of outs (One v) e = not (slice_index outs (at_least_zero v) == e)
is_other_of outs _ e = false

-- the piece at which the edge begins decides for another one
abbrev pub excludes : FlowGraph → Knowns → (e : ℕ) → Bool
excludes f t e = let node = from f.graph e in is_switch (kind_at f node) && is_other_of (outs f.graph node) (t.decision node) e

-- A graph with the nodes of another one, and the first so many of its edges: those that are excluded lead back to where they begin.
pub record IsKeptGraph (g : Graph) (excluded : ℕ → Bool) (count : ℕ) (kept : Graph) : Type 0 where
  pub nodes : kept.nodes ≡ g.nodes
  pub edges : edge_count kept ≡ count
  pub begins : (e : ℕ) → e < count → from kept e ≡ from g e
  pub ends : (e : ℕ) → e < count → to kept e ≡ (if excluded e then from g e else to g e)
