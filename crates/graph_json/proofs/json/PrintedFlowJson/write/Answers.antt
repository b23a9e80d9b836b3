use Rattle.std.proofs.Common.{ap}
use Rattle.graph_json.specs.Json.{edge_json, piece_json, region_json, rows}
use Rattle.view_output.proofs.Pieces.{and_last, and_same, and_then}
use Rattle.graph_json.proofs.json.PrintedFlowJson.write.Goals as goal

pub returns : goal.returns
returns g c =
    let flow = c.args.self.now in
    let pieces = and_same (rows piece_json flow.pieces.items) (and_then c.in_ok-item.ensures c.in_ok-text.ensures) c.in_ok-write_rows.ensures (ap (rows piece_json) c.as_slice.ensures.value) in
    let edges = and_same (rows edge_json flow.edges.items) (and_then pieces c.in_ok-text-2.ensures) c.in_ok-write_rows-2.ensures (ap (rows edge_json) c.as_slice-2.ensures.value) in
    let regions = and_same (rows region_json flow.regions.items) (and_then edges c.in_ok-text-3.ensures) c.in_ok-write_rows-3.ensures (ap (rows region_json) c.as_slice-3.ensures.value) in
    and_last _ _ c.text-4.result regions c.text-4.ensures
