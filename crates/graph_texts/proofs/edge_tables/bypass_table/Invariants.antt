use Rattle.closed_walks.specs.Graph.{edge_count}
use Rattle.dep_routing.specs.FreeLines.{is_bypass}
use Rattle.graph_texts.proofs.MarkedRows.{AreMarked}
use Rattle.graph_texts.proofs.edge_tables.bypass_table.Given as goal

abbrev pub invariant-loop-edge : goal.invariant-loop-edge
invariant-loop-edge l = AreMarked l.l.lines (edge_count l.g) (λ line edge. is_bypass l.g l.l edge line) l.edge l.table
