use Rattle.graph_texts.specs.GraphText.{wire_line}
use Rattle.graph_texts.proofs.Texts.{IsTelling, lines}
use Rattle.graph_texts.proofs.graph_wires.tell_wires.Given as goal

abbrev pub invariant-loop-line : goal.invariant-loop-line
invariant-loop-line g l = IsTelling l.initial.buffer l.buffer (g.K.Sink.got l.initial.sink) (g.K.Sink.got l.sink) (g.K.Sink.faults l.initial.sink) (g.K.Sink.faults l.sink) (lines (wire_line l.g l.l) 0 l.line)
