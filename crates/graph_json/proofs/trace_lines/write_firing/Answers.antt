use Rattle.std.proofs.Common.{ap}
use Rattle.std.specs.Fmt.{decimal}
use Rattle.graph_json.specs.Json.{or_null}
use Rattle.graph_json.specs.TraceLines.{source_at}
use Rattle.view_output.proofs.Pieces.{and_last, and_same, and_then}
use Rattle.graph_json.proofs.trace_lines.write_firing.Goals as goal

pub returns : goal.returns
returns g c =
    let place = or_null decimal (source_at c.args.graphs.flow.now c.args.graphs.graph.now c.args.firing.now.node) in
    let source = and_same place (and_then c.in_ok-item.ensures c.in_ok-text.ensures) c.in_ok-write_or_null.ensures (ap (or_null decimal) c.source_at-source.ensures) in
    let round = and_then (and_then source c.in_ok-text-2.ensures) c.in_ok-write_or_null-2.ensures in
    and_last _ _ c.text-3.result round c.text-3.ensures
