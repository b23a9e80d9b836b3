-- What a contract sees of `Lines`: for each edge one cell for each line.
use Rattle.std.specs.Prelude.{◌≡◌, ℕ, ◌<◌, ◌↔◌, Bool, true, false, List, [], slice_index, slice_index_or}
use Rattle.closed_walks.specs.Graph.{Graph, edge_count}
use Rattle.region_tree.specs.Tree.{Tree}
use Rattle.dep_routing.specs.Quiet.{IsWire}
use Rattle.dep_routing.specs.Next.{Next}

pub record Routing : Type 0 where
  pub lines : ℕ
  pub edges : ℕ
  -- edge by edge, the edge to which each line is led from it
  pub next : List (List ℕ)
  -- edge by edge, whether it is a wire of each line
  pub wires : List (List Bool)

abbrev pub next_at : Routing → (line e : ℕ) → ℕ
next_at r line e = slice_index (slice_index_or r.next e []) line

abbrev pub wire_at : Routing → (line e : ℕ) → Bool
wire_at r line e = slice_index_or (slice_index_or r.wires e []) line false

-- The table tells for so many lines all wires of the graph, and to which edge a line is led from each edge.
pub record IsRouting (g : Graph) (t : Tree) (touches : ℕ → ℕ → Bool) (lines : ℕ) (r : Routing) : Type 0 where
  pub count : r.lines ≡ lines
  pub edges : r.edges ≡ edge_count g
  pub wire : (line e : ℕ) → line < lines → e < edge_count g → (wire_at r line e ≡ true) ↔ IsWire g t touches line e
  pub next : (line e : ℕ) → line < lines → e < edge_count g → Next g t touches line e (next_at r line e)
