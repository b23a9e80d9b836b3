use Rattle.std.proofs.Common.{◌∙◌, arith}
use Rattle.closed_walks.specs.Graph.{edge_count}
use Rattle.dep_routing.specs.Routing.{wire_at}
use Rattle.graph_texts.proofs.MarkedRows.{all_rows, none_yet, row_more}
use Rattle.graph_texts.proofs.edge_tables.wire_table.Goals as goal

pub loop-edge-init : goal.loop-edge-init
loop-edge-init c =
    let made = c.in_ok-table.ensures in
    none_yet c.args.l.now.lines (edge_count c.args.g.now) (wire_at c.args.l.now) c.in_ok-table.table (made.columns ∙ c.lines.ensures) (made.rows ∙ c.edges.ensures.count) made.marks

pub loop-edge-preserved : goal.loop-edge-preserved
loop-edge-preserved c =
    row_more c.args.l.now.lines (edge_count c.args.g.now) (wire_at c.args.l.now) c.loop-edge.edge c.wires.result.now c.loop-edge.table c.mark_row.new.self c.loop-edge.invariant c.mark_row.ensures.columns c.mark_row.ensures.rows c.wires.ensures.wires c.mark_row.ensures.marks

pub returns : goal.returns
returns c =
    let all = c.loop-edge-test.false in
    all_rows c.args.l.now.lines (edge_count c.args.g.now) (wire_at c.args.l.now) c.loop-edge.edge c.loop-edge.table (omega (arith, all, c.edges-edge-end.ensures.count)) c.loop-edge.invariant
