-- What the nodes of a graph are.
use Rattle.std.specs.Prelude.{ℕ, List, [], ◌∷◌}
use Rattle.printed_graphs.specs.declared.dataflow.Node.{Node}
use Rattle.printed_graphs.specs.declared.dataflow.Node.TheVariants as node

-- the piece of a node
abbrev pub piece_of : Node → ℕ
piece_of (node.Operation piece number work lines) = piece
piece_of (node.Switch piece line) = piece
piece_of (node.Merge piece line) = piece

-- the token lines that a node takes
abbrev pub lines_of : Node → List ℕ
lines_of (node.Operation piece number work lines) = lines.items
lines_of (node.Switch piece line) = line ∷ []
lines_of (node.Merge piece line) = line ∷ []
