-- The flow graph of a program.
use Rattle.std.specs.Prelude.{ℕ, List, filter, fold, Option, Some, None, slice_get}
use Rattle.std.specs.List.{range_with_len}
use Rattle.f77_tree.specs.declared.programs.Exec.{Exec}
use Rattle.cfg_build.specs.declared.pieces.Piece.{Piece}
use Rattle.cfg_build.specs.Parts.{start_part}
use Rattle.cfg_build.specs.Joined.{FlowGraph, joined, finish}
use Rattle.cfg_build.specs.Holds.{is_held, held_edge, with_hold}

abbrev pub piece_in : Option Piece → Piece
piece_in None = start_part.piece
piece_in (Some piece) = piece

-- the piece with this number; there is no other than the start where no piece has it
abbrev pub piece_at : List Piece → ℕ → Piece
piece_at pieces node = piece_in (slice_get pieces node)

-- the pieces that get a hold, in order
abbrev pub held : List Exec → List ℕ
held execs = let g = (joined execs).graph in filter (is_held g (finish execs)) (range_with_len 0 g.nodes)

-- a hold for the piece with this number
abbrev pub with_hold_for : List Exec → FlowGraph → ℕ → FlowGraph
with_hold_for execs f node =
    let j = joined execs in
    let piece = piece_at j.pieces node in
    with_hold (finish execs) f (held_edge j.graph node piece.kind) piece

-- the flow graph of these executables
abbrev pub flow : List Exec → FlowGraph
flow execs = fold (with_hold_for execs) (joined execs) (held execs)
