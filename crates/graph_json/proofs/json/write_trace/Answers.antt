use Rattle.std.proofs.Common.{ap}
use Rattle.graph_json.specs.Json.{firing_json, in_commas}
use Rattle.view_output.proofs.Pieces.{and_last, and_same, and_then}
use Rattle.graph_json.proofs.json.write_trace.Goals as goal

pub returns : goal.returns
returns g c =
    let firings = and_same (in_commas firing_json c.args.trace.now.firings.items) c.in_ok-text.ensures c.in_ok-write_in_commas.ensures (ap (in_commas firing_json) c.as_slice.ensures.value) in
    let rounds = and_then (and_then firings c.in_ok-text-2.ensures) c.in_ok-write_or_null.ensures in
    and_last _ _ c.text-4.result (and_then (and_then rounds c.in_ok-text-3.ensures) c.in_ok-write.ensures) c.text-4.ensures
