-- What the tests of free lines tell, where the table of wires is that of a flow graph.
use Rattle.std.specs.Prelude.{◌≡◌, ◌<◌, ◌↔◌, ℕ, Bool, true, false, ◌≢◌}
use Rattle.closed_walks.specs.Graph.{Graph, edge_count, from, to}
use Rattle.closed_walks.specs.Region.{IsFlowGraph, IsPassed}
use Rattle.region_tree.specs.Tree.{Tree, IsRegionTree}
use Rattle.dep_routing.specs.FreeLines.{is_free, is_passing, is_bypass}
use Rattle.dep_routing.specs.Next.{IsHop}
use Rattle.dep_routing.specs.Quiet.{IsFree}
use Rattle.dep_routing.specs.Routing.{Routing, IsRouting, wire_at}

-- for a table of so many lines, a node, and a line
abbrev OfNodes : (Graph → Tree → (ℕ → ℕ → Bool) → Routing → (node line : ℕ) → Type 0) → Type 0
OfNodes told = (g : Graph) (t : Tree) (touches : ℕ → ℕ → Bool) (lines : ℕ) (r : Routing) (node line : ℕ)
    → IsFlowGraph g → IsRouting g t touches lines r → node < g.nodes → line < lines → told g t touches r node line

-- for such a table, an edge, and a line
abbrev OfEdges : (Graph → Tree → (ℕ → ℕ → Bool) → Routing → (edge line : ℕ) → Type 0) → Type 0
OfEdges told = (g : Graph) (t : Tree) (touches : ℕ → ℕ → Bool) (lines : ℕ) (r : Routing) (edge line : ℕ)
    → IsFlowGraph g → IsRouting g t touches lines r → edge < edge_count g → line < lines → told g t touches r edge line

-- a line is led to a node exactly where no region that is quiet for the line holds the node
abbrev pub FreeLinesAreTold : Type 0
FreeLinesAreTold = OfNodes (λ g t touches r node line. (is_free g r node line ≡ true) ↔ IsFree g t touches line node)

-- a line that a node touches is led to it
abbrev pub TouchedLinesAreLed : Type 0
TouchedLinesAreLed = OfNodes (λ g t touches r node line. touches node line ≡ true → is_free g r node line ≡ true)

-- it passes a node exactly where besides the node doesn't touch it
abbrev pub PassingLinesAreTold : Type 0
PassingLinesAreTold = OfNodes (λ g t touches r node line. (is_passing g r touches node line ≡ true) ↔ (IsFree g t touches line node × (touches node line ≡ false)))

-- one edge to a node tells whether a line is led there
abbrev pub WiresAreAlike : Type 0
WiresAreAlike = OfEdges (λ g t touches r edge line. wire_at r line edge ≡ is_free g r (to g edge) line)

-- the edge begins at a node that is free for the line, and enters a region that is quiet for it
pub record IsBypass (g : Graph) (t : Tree) (touches : ℕ → ℕ → Bool) (edge line : ℕ) : Type 0 where
  pub begins : IsFree g t touches line (from g edge)
  pub over : ℕ
  pub hop : IsHop g t touches line edge over

-- the lines that are told to bypass a region are those
abbrev pub BypassesAreTold : Type 0
BypassesAreTold = OfEdges (λ g t touches r edge line. IsRegionTree g t → (is_bypass g r edge line ≡ true) ↔ IsBypass g t touches edge line)

-- a free node other than the start, with one edge to it and another from it, touches the line
abbrev pub FreePassedNodesTouch : Type 0
FreePassedNodesTouch = (g : Graph) (t : Tree) (touches : ℕ → ℕ → Bool) (line node a b : ℕ)
    → IsFlowGraph g → IsRegionTree g t → IsPassed g node a b → 0 ≢ node → IsFree g t touches line node → touches node line ≡ true
