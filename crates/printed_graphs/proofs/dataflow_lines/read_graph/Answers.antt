use Rattle.std.proofs.Common.{◌++◌, length, flat_map, ap, sym, ◌∙◌}
use Rattle.printed_graphs.specs.DataflowText.{size_text, token_line_text, node_line_text, value_text, wires_text, bypass_text}
use Rattle.printed_graphs.specs.Words.{lines_from}
use Rattle.printed_graphs.proofs.Texts.{six_parts}
use Rattle.printed_graphs.proofs.dataflow_lines.read_graph.Goals as goal

pub returns-clause-text : goal.returns-clause-text
returns-clause-text c =
    let lines = c.in_ok-lines.lines.items in
    let nodes = c.in_ok-nodes.nodes.items in
    let values = c.in_ok-values.values.items in
    let wires = c.in_ok-wires.wires.items in
    let bypasses = c.in_ok-bypasses.bypasses.items in
    let after = c.read_size.new.cursor.rest.now in
    let size =
    c.in_ok-size.ensures.text
    ∙ ap (λ n. size_text n c.in_ok-size.size.nodes ++ after) (sym c.in_ok-lines.ensures.count)
    ∙ ap (λ n. size_text (length lines) n ++ after) (sym c.in_ok-nodes.ensures.count) in
    six_parts (size_text (length lines) (length nodes)) (lines_from token_line_text 0 lines) (lines_from node_line_text 0 nodes) (flat_map value_text values) (lines_from wires_text 0 wires) (flat_map bypass_text bypasses)
    c.args.cursor.now.rest.now after c.read_token_lines.new.cursor.rest.now c.read_nodes.new.cursor.rest.now c.read_values.new.cursor.rest.now c.read_all_wires.new.cursor.rest.now c.read_bypasses.new.cursor.rest.now
    size c.in_ok-lines.ensures.text c.in_ok-nodes.ensures.text c.in_ok-values.ensures.text c.in_ok-wires.ensures.text c.in_ok-bypasses.ensures.text
