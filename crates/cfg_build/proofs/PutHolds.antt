-- A hold that is put onto an edge of a drawing.
use Rattle.std.proofs.Common.{◌≡◌, ℕ, ◌+◌, ◌<◌, List, [], ◌∷◌, ◌++◌, length, get_or, set, sym, ap, ◌∙◌, arith, length-append}
use Rattle.std.proofs.lemmas.List.{append_assoc, get_or_default, length_push, length-set}
use Rattle.std.proofs.lemmas.Option.{slice_get-get_or}
use Rattle.std.specs.Prelude.{slice_get}
use Rattle.closed_walks.specs.Graph.{from, to}
use Rattle.cfg_build.specs.declared.pieces.Piece.{Piece}
use Rattle.cfg_build.specs.declared.pieces.PieceKind.TheVariants.{Hold}
use Rattle.cfg_build.specs.Joined.{FlowGraph}
use Rattle.cfg_build.specs.Holds.{with_hold}
use Rattle.cfg_build.specs.Flow.{piece_at, piece_in}
use Rattle.std.proofs.lemmas.Grind.{elements}

abbrev pub drawing : List Piece → List (ℕ × ℕ) → FlowGraph
drawing pieces edges = record { graph = record { nodes = length pieces; edges = edges }; pieces = pieces }

abbrev pub hold_for : Piece → Piece
hold_for piece = record { kind = Hold; line = piece.line; exec = piece.exec }

pub piece_is : (pieces : List Piece) (x : ℕ) (piece : Piece) → x < length pieces → piece ≡ get_or pieces x piece → piece_at pieces x ≡ piece
piece_is pieces x piece within is = ap piece_in (slice_get-get_or pieces x piece within) ∙ sym is

pub put_one : (pieces new : List Piece) (edges second third : List (ℕ × ℕ)) (x edge finish hold : ℕ) (e : ℕ × ℕ) (piece : Piece) → x < length pieces → edge < length edges
    → hold ≡ length pieces → e ≡ get_or edges edge e → piece ≡ get_or pieces x piece
    → new ≡ pieces ++ hold_for piece ∷ [] → second ≡ set edges edge (e.0, hold) ++ (hold, e.1) ∷ [] → third ≡ second ++ (hold, finish) ∷ []
    → drawing new third ≡ with_hold finish (drawing pieces edges) edge (piece_at pieces x)
unfolding from to
put_one pieces new edges second third x edge finish hold e piece x_within edge_within hold_is e_is piece_is_at new_is second_is third_is =
    grind (arith, get_or_default edges edge (0, 0) e edge_within, append_assoc, length_push pieces (hold_for piece), piece_is pieces x piece x_within piece_is_at)

-- what comes first stays
pub prefix_stays : (pieces : List Piece) (more : List Piece) (k : ℕ) → k < length pieces → slice_get (pieces ++ more) k ≡ slice_get pieces k
prefix_stays pieces more k within = grind (arith, elements, slice_get-get_or)

-- how many pieces and edges there are with a hold more
pub length_pieces : (finish : ℕ) (f : FlowGraph) (edge : ℕ) (piece : Piece) → length (with_hold finish f edge piece).pieces ≡ length f.pieces + 1
length_pieces finish f edge piece = length_push f.pieces (hold_for piece)

pub length_edges : (finish : ℕ) (f : FlowGraph) (edge : ℕ) (piece : Piece) → length (with_hold finish f edge piece).graph.edges ≡ length f.graph.edges + 2
length_edges finish f edge piece = grind (arith, length-append, length-set)
