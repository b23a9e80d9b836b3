use Rattle.std.proofs.Common.{◌∙◌, ap, map}
use Rattle.graph_json.specs.Json.{bypass_json, line_json, node_json, rows, value_json, wires_json}
use Rattle.graph_json.specs.Placed.{placed_json}
use Rattle.graph_json.proofs.NodeLists.{rows_alike}
use Rattle.view_output.proofs.Pieces.{and_last, and_same, and_then}
use Rattle.graph_json.proofs.json_graph.write_graph.Goals as goal

pub returns : goal.returns
returns g c =
    let graph = c.args.graph.now in
    let shown = node_json c.args.flow.now in
    let alike = rows_alike placed_json shown c.in_ok-nodes.nodes.items graph.nodes.items (c.in_ok-nodes.ensures ∙ ap (map shown) c.as_slice.ensures.value) in
    let lines = and_same (rows line_json graph.lines.items) c.in_ok-text.ensures c.in_ok-write_rows.ensures (ap (rows line_json) c.as_slice-2.ensures.value) in
    let nodes = and_same (rows shown graph.nodes.items) (and_then lines c.in_ok-text-2.ensures) c.in_ok-write_rows-2.ensures (ap (rows placed_json) c.as_slice-3.ensures.value ∙ alike) in
    let values = and_same (rows value_json graph.values.items) (and_then nodes c.in_ok-text-3.ensures) c.in_ok-write_rows-3.ensures (ap (rows value_json) c.as_slice-4.ensures.value) in
    let wires = and_same (rows wires_json graph.wires.items) (and_then values c.in_ok-text-4.ensures) c.in_ok-write_rows-4.ensures (ap (rows wires_json) c.as_slice-5.ensures.value) in
    let bypasses = and_same (rows bypass_json graph.bypasses.items) (and_then wires c.in_ok-text-5.ensures) c.in_ok-write_rows-5.ensures (ap (rows bypass_json) c.as_slice-6.ensures.value) in
    and_last _ _ c.text-6.result bypasses c.text-6.ensures
