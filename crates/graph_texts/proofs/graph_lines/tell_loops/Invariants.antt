use Rattle.std.specs.Prelude.{flat_map, take}
use Rattle.graph_texts.proofs.LinesTold.{loop_text}
use Rattle.graph_texts.proofs.Texts.{IsTelling}
use Rattle.graph_texts.proofs.graph_lines.tell_loops.Given as goal

abbrev pub invariant-loop-k : goal.invariant-loop-k
invariant-loop-k g l = IsTelling l.initial.buffer l.buffer (g.K.Sink.got l.initial.sink) (g.K.Sink.got l.sink) (g.K.Sink.faults l.initial.sink) (g.K.Sink.faults l.sink) (flat_map (loop_text l.c) (take l.k l.p.execs))
