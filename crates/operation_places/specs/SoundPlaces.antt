-- Which places of lines, decisions and values a net of operations has.
use Rattle.std.specs.Prelude.{◌≡◌, ◌≤◌, length, vec_capacity}
use Rattle.net_board.specs.Nodes.{nodes_of}
use Rattle.net_board.specs.TokenEdges.{AreEdges}
use Rattle.op_board.specs.OperationNets.{OperationNet}
use Rattle.operation_places.specs.declared.places.Places.{Places}
use Rattle.operation_tables.specs.Waits.{node_total}

-- there is a place for each line, for each node of the net of statements and for the value of each node, and the edges are those of
-- the graph
pub record ArePlaces (x : OperationNet) (s : Places) : Type 0 where
  pub lines : length s.lines.items ≡ x.net.routing.lines
  pub passed : length s.passed.items ≡ x.net.routing.lines
  pub edges : length s.edges.items ≡ length (nodes_of x.net)
  pub values : length s.values.items ≡ node_total x
  pub marks : length s.set ≡ node_total x
  pub room : node_total x ≤ vec_capacity s.counts
  pub stand : AreEdges x.net s.lines.items
  pub lie : AreEdges x.net s.edges.items
