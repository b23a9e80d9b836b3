-- Nodes of a dataflow graph.
use Rattle.std.specs.Prelude.{ℕ}
use Rattle.printed_graphs.specs.declared.dataflow.Node.{Node}
use Rattle.printed_graphs.specs.declared.dataflow.Node.TheVariants.{Operation, Switch, Merge}

-- the number of a node's piece
abbrev pub piece_of : Node → ℕ
piece_of (Operation piece number work lines) = piece
piece_of (Switch piece line) = piece
piece_of (Merge piece line) = piece
