-- The shape of a flow graph: which edges stand where, and how many come to each piece and leave it.
use Rattle.std.specs.Prelude.{◌≡◌, ℕ, ◌<◌, ◌↔◌, Bool, true, false, length}
use Rattle.closed_walks.specs.Graph.{edge_count, from, to}
use Rattle.cfg_build.specs.declared.pieces.PieceKind.{PieceKind}
use Rattle.cfg_build.specs.declared.pieces.PieceKind.TheVariants.{Start, Branch, Join, Hold, End}
use Rattle.cfg_build.specs.Joined.{FlowGraph}
use Rattle.cfg_build.specs.Flow.{piece_at}
use Rattle.cfg_build.specs.Degrees.{in_degree, out_degree}

-- what stands at a node
abbrev pub kind_at : FlowGraph → ℕ → PieceKind
kind_at f node = (piece_at f.pieces node).kind

-- one edge comes to such a piece
abbrev pub takes_one : PieceKind → Bool
takes_one Join = false
takes_one End = false
takes_one _ = true

-- one edge leaves such a piece
abbrev pub leaves_one : PieceKind → Bool
leaves_one Branch = false
leaves_one Hold = false
leaves_one _ = true

-- A piece stands at each node: the start at node 0, the end at `finish`, and holds after the end.
pub record IsShaped (f : FlowGraph) (finish : ℕ) : Type 0 where
  pub count : length f.pieces ≡ f.graph.nodes
  pub start : (node : ℕ) → node < f.graph.nodes → (kind_at f node ≡ Start) ↔ (node ≡ 0)
  pub end : (node : ℕ) → node < f.graph.nodes → (kind_at f node ≡ End) ↔ (node ≡ finish)
  pub holds : (node : ℕ) → node < f.graph.nodes → (kind_at f node ≡ Hold) ↔ (finish < node)
  pub end_exists : finish < f.graph.nodes
  -- edge 0 alone leaves the end, and edge 0 alone comes to the start; edge 1 alone leaves the start
  pub two_edges : 1 < edge_count f.graph
  pub leaves_end : (e : ℕ) → e < edge_count f.graph → (from f.graph e ≡ finish) ↔ (e ≡ 0)
  pub comes_to_start : (e : ℕ) → e < edge_count f.graph → (to f.graph e ≡ 0) ↔ (e ≡ 0)
  pub leaves_start : (e : ℕ) → e < edge_count f.graph → (from f.graph e ≡ 0) ↔ (e ≡ 1)
  -- ways to a piece, and ways from it
  pub one_comes : (node : ℕ) → node < f.graph.nodes → takes_one (kind_at f node) ≡ true → in_degree f.graph node ≡ 1
  pub one_leaves : (node : ℕ) → node < f.graph.nodes → leaves_one (kind_at f node) ≡ true → out_degree f.graph node ≡ 1
  pub two_leave : (node : ℕ) → node < f.graph.nodes → kind_at f node ≡ Hold → out_degree f.graph node ≡ 2
