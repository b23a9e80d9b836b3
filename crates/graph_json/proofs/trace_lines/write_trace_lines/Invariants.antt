use Rattle.std.proofs.Common.{◌≡◌}
use Rattle.graph_json.specs.TraceLines.{first_lines}
use Rattle.view_output.specs.Told.{Adds, told}
use Rattle.graph_json.proofs.trace_lines.write_trace_lines.Given as goal

abbrev pub invariant-loop-firing : goal.invariant-loop-firing
invariant-loop-firing g l = record {
  counted : l.k ≡ l.firing-index;
  told : Adds (told g.K.Sink.got l.fn.output) (told g.K.Sink.got l.output) (first_lines l.graphs.flow.now l.graphs.graph.now l.firing-items l.rounds l.firing-index);
}
