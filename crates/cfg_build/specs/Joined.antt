-- The pieces and edges of a program before holds are put on them: a join stands before each part to which more than one way leads.
use Rattle.std.specs.Prelude.{ℕ, ◌+◌, Bool, true, false, ◌==◌, ◌&&◌, nat_lt, if◌then◌else◌, List, [], ◌∷◌, length, map, flat_map, take, sum_by, count_by}
use Rattle.std.specs.List.{position_or_len}
use Rattle.closed_walks.specs.Graph.{Graph}
use Rattle.f77_tree.specs.declared.programs.Exec.{Exec}
use Rattle.cfg_build.specs.declared.parts.Part.{Part}
use Rattle.cfg_build.specs.declared.parts.Target.{Target}
use Rattle.cfg_build.specs.declared.parts.Target.TheVariants.{Start, First, Test}
use Rattle.cfg_build.specs.declared.pieces.Piece.{Piece}
use Rattle.cfg_build.specs.declared.pieces.PieceKind.{PieceKind}
use Rattle.cfg_build.specs.declared.pieces.PieceKind.TheVariants.{Join, End}
use Rattle.cfg_build.specs.Control.{fan}
use Rattle.cfg_build.specs.Parts.{parts, last_of}

abbrev pub is_same : Target → Target → Bool
is_same Start Start = true
is_same (First k) (First n) = k == n
is_same (Test k) (Test n) = k == n
is_same _ _ = false

-- how many ways lead to the target
abbrev pub ways_to : List Part → Target → ℕ
ways_to parts target = count_by (is_same target) (flat_map (λ part. part.outs) parts)

-- the end takes any number of ways
abbrev pub is_end : PieceKind → Bool
is_end End = true
is_end _ = false

abbrev pub is_joined : List Part → Part → Bool
is_joined parts part = nat_lt 1 (ways_to parts part.own) && (if is_end part.piece.kind then false else true)

-- how many pieces there are for a part
abbrev pub width : List Part → Part → ℕ
width parts part = if is_joined parts part then 2 else 1

abbrev pub parts_before : List Part → Target → List Part
parts_before parts target = take (position_or_len (λ part. is_same target part.own) parts) parts

-- the number of the piece to which a way to the target leads: the join, where there is one
abbrev pub number : List Part → Target → ℕ
number parts target = sum_by (width parts) (parts_before parts target)

-- a piece, and where its edges lead, in order
pub record Row : Type 0 where
  pub piece : Piece
  pub heads : List ℕ

abbrev pub join_row : List Part → Part → Row
join_row parts part = record { piece = record { kind = Join; line = part.piece.line; exec = part.piece.exec }; heads = (number parts part.own + 1) ∷ [] }

abbrev pub part_row : List Part → Part → Row
part_row parts part = record { piece = part.piece; heads = map (number parts) part.outs }

abbrev pub rows_of : List Part → Part → List Row
rows_of parts part = if is_joined parts part then join_row parts part ∷ part_row parts part ∷ [] else part_row parts part ∷ []

-- all pieces in the order of their numbers
abbrev pub rows : List Part → List Row
rows parts = flat_map (rows_of parts) parts

-- a graph, and what stands at its nodes
pub record FlowGraph : Type 0 where
  pub graph : Graph
  pub pieces : List Piece

-- the number of the end
abbrev pub finish : List Exec → ℕ
finish execs = number (parts execs) (First (last_of execs))

-- edge 0 leads from the end to the start, and then come the edges of each piece
abbrev pub joined : List Exec → FlowGraph
joined execs =
    let all = rows (parts execs) in
    record { graph = record { nodes = length all; edges = (finish execs, 0) ∷ fan 0 (map (λ row. row.heads) all) }; pieces = map (λ row. row.piece) all }
