use Rattle.std.specs.Prelude.{◌-◌, ◌≤◌, ◌++◌, filter, flat_map}
use Rattle.std.specs.List.{range_with_len}
use Rattle.class_set.specs.Members.{first_above}
use Rattle.df_io.specs.TextBuffer.{IsWrittenBut}
use Rattle.set_columns.specs.Marks.{marked}
use Rattle.graph_texts.specs.GraphText.{hop_line}
use Rattle.graph_texts.proofs.graph_wires.tell_hops_of.Given as goal

abbrev pub invariant-loop-edge : goal.invariant-loop-edge
invariant-loop-edge g l = record {
  written : IsWrittenBut l.buffer (g.K.Sink.got l.initial.sink) (g.K.Sink.got l.sink) (l.initial.buffer ++ flat_map (hop_line l.l l.line) (filter (marked l.bypasses l.line) (range_with_len 0 (first_above l.before))));
  later : g.K.Sink.faults l.initial.sink ≤ g.K.Sink.faults l.sink;
  within : first_above l.before ≤ l.end;
}

abbrev pub decreases-loop-edge : goal.decreases-loop-edge
decreases-loop-edge g l = l.end - first_above l.before
