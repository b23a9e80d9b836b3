use Rattle.graph_jobs.specs.Regions.{piece_lines}
use Rattle.graph_texts.proofs.Texts.{IsTelling}
use Rattle.graph_jobs.proofs.regions.tell_pieces.Given as goal

abbrev pub invariant-loop-k : goal.invariant-loop-k
invariant-loop-k g l = IsTelling l.initial.buffer l.buffer (g.K.Sink.got l.initial.sink) (g.K.Sink.got l.sink) (g.K.Sink.faults l.initial.sink) (g.K.Sink.faults l.sink) (piece_lines l.flow.pieces l.k)
