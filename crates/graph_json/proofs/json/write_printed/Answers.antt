use Rattle.view_output.proofs.Pieces.{and_last, and_then}
use Rattle.graph_json.proofs.json.write_printed.Goals as goal

pub returns : goal.returns
returns g c =
    let flow = and_then c.in_ok-text.ensures c.in_ok-write_or_null.ensures in
    let graph = and_then (and_then flow c.in_ok-text-2.ensures) c.in_ok-write_graph_or_null.ensures in
    and_last _ _ c.text-4.result (and_then (and_then graph c.in_ok-text-3.ensures) c.in_ok-write_trace_or_null.ensures) c.text-4.ensures
