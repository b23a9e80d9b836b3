-- Flow graphs whose numbers have 32 bits.
use Rattle.std.specs.Prelude.{ℕ, ◌<◌, ◌^◌, List, length}
use Rattle.closed_walks.specs.Graph.{edge_count}
use Rattle.cfg_build.specs.declared.pieces.Piece.{Piece}
use Rattle.cfg_build.specs.Joined.{FlowGraph}
use Rattle.cfg_build.specs.Flow.{piece_at}

-- the line of each piece below this number
abbrev pub AreShortBelow : List Piece → ℕ → Type 0
AreShortBelow pieces count = (node : ℕ) → node < count → (piece_at pieces node).line < 2 ^ 32

-- the count of its edges, and the line of each piece
pub record IsShortFlow (f : FlowGraph) : Type 0 where
  pub edges : edge_count f.graph < 2 ^ 32
  pub lines : AreShortBelow f.pieces (length f.pieces)
