use Rattle.closed_walks.specs.Graph.{edge_count}
use Rattle.dep_routing.specs.Routing.{wire_at}
use Rattle.graph_texts.proofs.MarkedRows.{AreMarked}
use Rattle.graph_texts.proofs.edge_tables.wire_table.Given as goal

abbrev pub invariant-loop-edge : goal.invariant-loop-edge
invariant-loop-edge l = AreMarked l.l.lines (edge_count l.g) (wire_at l.l) l.edge l.table
