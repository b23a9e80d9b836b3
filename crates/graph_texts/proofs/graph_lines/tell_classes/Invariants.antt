use Rattle.std.specs.Prelude.{◌-◌, ◌≤◌}
use Rattle.graph_texts.specs.GraphText.{class_line}
use Rattle.graph_texts.proofs.Texts.{IsTelling, lines}
use Rattle.graph_texts.proofs.graph_lines.tell_classes.Given as goal

abbrev pub invariant-loop-class : goal.invariant-loop-class
invariant-loop-class g l = IsTelling l.initial.buffer l.buffer (g.K.Sink.got l.initial.sink) (g.K.Sink.got l.sink) (g.K.Sink.faults l.initial.sink) (g.K.Sink.faults l.sink) (lines (class_line l.p.names l.c) 1 (l.class - 1)) × (1 ≤ l.class)
