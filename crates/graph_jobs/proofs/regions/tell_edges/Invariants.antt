use Rattle.graph_jobs.specs.Regions.{edge_lines}
use Rattle.graph_texts.proofs.Texts.{IsTelling}
use Rattle.graph_jobs.proofs.regions.tell_edges.Given as goal

abbrev pub invariant-loop-e : goal.invariant-loop-e
invariant-loop-e g l = IsTelling l.initial.buffer l.buffer (g.K.Sink.got l.initial.sink) (g.K.Sink.got l.sink) (g.K.Sink.faults l.initial.sink) (g.K.Sink.faults l.sink) (edge_lines l.g l.classes l.e)
