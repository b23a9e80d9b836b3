-- Holds: where control goes round and can't come to the end, a hold goes on or leaves for the end. It always goes on.
use Rattle.std.specs.Prelude.{ℕ, ◌+◌, Bool, true, false, ◌==◌, ◌&&◌, not, if◌then◌else◌, [], ◌∷◌, ◌++◌, slice_set}
use Rattle.std.specs.List.{list_any, range_with_len, position_or_len}
use Rattle.closed_walks.specs.Graph.{Graph, from, to}
use Rattle.closed_walks.specs.Reaching.{reaches}
use Rattle.cfg_build.specs.declared.pieces.Piece.{Piece}
use Rattle.cfg_build.specs.declared.pieces.PieceKind.{PieceKind}
use Rattle.cfg_build.specs.declared.pieces.PieceKind.TheVariants.{Join, Hold}
use Rattle.cfg_build.specs.Joined.{FlowGraph}

-- an edge leads to the node from a node that it reaches
abbrev pub is_on_cycle : Graph → ℕ → Bool
is_on_cycle g node = list_any (λ e. (e.1 == node) && reaches g node e.0) g.edges

-- the node reaches a lower one that is on a cycle
abbrev pub reaches_lower_cycle : Graph → ℕ → Bool
reaches_lower_cycle g node = list_any (λ lower. is_on_cycle g lower && reaches g node lower) (range_with_len 0 node)

-- A piece on a cycle gets a hold where it doesn't reach the end, nor a lower piece on a cycle.
abbrev pub is_held : Graph → (finish : ℕ) → ℕ → Bool
is_held g finish node = is_on_cycle g node && not (reaches g node finish) && not (reaches_lower_cycle g node)

abbrev pub is_join : PieceKind → Bool
is_join Join = true
is_join _ = false

-- the edge on which the hold of a piece stands: the one that leaves a join, the one that comes to another piece
abbrev pub held_edge : Graph → (node : ℕ) → PieceKind → ℕ
held_edge g node kind = if is_join kind then position_or_len (λ e. e.0 == node) g.edges else position_or_len (λ e. e.1 == node) g.edges

-- The edge leads to a new piece, and two edges leave that: the first to where the edge led, the second to the end.
abbrev pub with_hold : (finish : ℕ) → FlowGraph → (edge : ℕ) → Piece → FlowGraph
with_hold finish f edge held =
    let g = f.graph in
    record {
      graph = record { nodes = g.nodes + 1; edges = slice_set g.edges edge (from g edge, g.nodes) ++ (g.nodes, to g edge) ∷ (g.nodes, finish) ∷ [] };
      pieces = f.pieces ++ record { kind = Hold; line = held.line; exec = held.exec } ∷ [];
    }
