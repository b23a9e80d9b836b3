-- The text of a flow graph.
use Rattle.std.specs.Prelude.{ℕ, ◌+◌, List, [], ◌∷◌, ◌++◌, length, codes}
use Rattle.std.specs.Fmt.{decimal}
use Rattle.printed_graphs.specs.declared.flow.Edge.{Edge}
use Rattle.printed_graphs.specs.declared.flow.Piece.{Piece}
use Rattle.printed_graphs.specs.declared.flow.PrintedFlow.{PrintedFlow}
use Rattle.printed_graphs.specs.declared.flow.Region.{Region}
use Rattle.printed_graphs.specs.Names.{kind_text}
use Rattle.printed_graphs.specs.Words.{field_text, lines_from}

-- how many there are of each
abbrev pub counts_text : (pieces edges classes regions : ℕ) → List ℕ
counts_text pieces edges classes regions = codes "PIECES " ++ decimal pieces ++ codes " EDGES " ++ decimal edges ++ codes " CLASSES " ++ decimal classes ++ codes " REGIONS " ++ decimal regions ++ 10 ∷ []

-- a piece with its number
abbrev pub piece_text : (number : ℕ) → Piece → List ℕ
piece_text number piece = codes "P " ++ decimal number ++ 32 ∷ [] ++ kind_text piece.kind ++ field_text piece.line ++ 10 ∷ []

-- an edge with its number
abbrev pub edge_text : (number : ℕ) → Edge → List ℕ
edge_text number edge = codes "E " ++ decimal number ++ field_text edge.from ++ field_text edge.to ++ field_text edge.class ++ 10 ∷ []

-- the region with this place in the list; their numbers begin with 1
abbrev pub region_text : (place : ℕ) → Region → List ℕ
region_text place region = codes "R " ++ decimal (place + 1) ++ field_text region.entry ++ field_text region.exit ++ field_text region.parent ++ 10 ∷ []

abbrev pub flow_text : PrintedFlow → List ℕ
flow_text flow = counts_text (length flow.pieces.items) (length flow.edges.items) flow.classes (length flow.regions.items) ++ lines_from piece_text 0 flow.pieces.items ++ lines_from edge_text 0 flow.edges.items ++ lines_from region_text 0 flow.regions.items
