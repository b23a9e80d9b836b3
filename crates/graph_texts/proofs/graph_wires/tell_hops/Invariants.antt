use Rattle.graph_texts.specs.GraphText.{hops_text}
use Rattle.graph_texts.proofs.Texts.{IsTelling, lines}
use Rattle.graph_texts.proofs.graph_wires.tell_hops.Given as goal

abbrev pub invariant-loop-line : goal.invariant-loop-line
invariant-loop-line g l = IsTelling l.initial.buffer l.buffer (g.K.Sink.got l.initial.sink) (g.K.Sink.got l.sink) (g.K.Sink.faults l.initial.sink) (g.K.Sink.faults l.sink) (lines (hops_text l.g l.l) 0 l.line)
