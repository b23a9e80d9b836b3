use Rattle.std.specs.Prelude.{◌-◌, ◌≤◌, ◌++◌, filter}
use Rattle.std.specs.List.{range_with_len}
use Rattle.class_set.specs.ClassSet.{holds}
use Rattle.class_set.specs.Members.{first_above}
use Rattle.df_io.specs.TextBuffer.{IsWrittenBut}
use Rattle.graph_texts.specs.GraphText.{numbers_text}
use Rattle.graph_texts.proofs.graph_nodes.tell_below.Given as goal

abbrev pub invariant-loop-n : goal.invariant-loop-n
invariant-loop-n g l = record {
  written : IsWrittenBut l.buffer (g.K.Sink.got l.initial.sink) (g.K.Sink.got l.sink) (l.initial.buffer ++ numbers_text (filter (holds l.set) (range_with_len 0 (first_above l.before))));
  later : g.K.Sink.faults l.initial.sink ≤ g.K.Sink.faults l.sink;
  within : first_above l.before ≤ l.end;
}

abbrev pub decreases-loop-n : goal.decreases-loop-n
decreases-loop-n g l = l.end - first_above l.before
