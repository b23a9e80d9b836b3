-- What contracts see of a `Flow`: its graph and its pieces.
use Rattle.std.specs.Prelude.{◌≡◌, length}
use Rattle.cfg_build.specs.declared.flow.Flow.TheInside.{Inside}
use Rattle.cfg_build.specs.Joined.{FlowGraph}

abbrev pub graph_of : Inside → FlowGraph
graph_of f = record { graph = f.graph; pieces = f.pieces.items }

-- each node has its piece
abbrev pub IsKept : Inside → Type 0
IsKept f = length f.pieces.items ≡ f.graph.nodes
