use Rattle.std.specs.Prelude.{flat_map, take, zip}
use Rattle.graph_texts.specs.NameSets.{held_name}
use Rattle.graph_texts.proofs.Texts.{IsTelling}
use Rattle.graph_texts.proofs.graph_lines.tell_names.Given as goal

abbrev pub invariant-loop-k : goal.invariant-loop-k
invariant-loop-k g l = IsTelling l.initial.buffer l.buffer (g.K.Sink.got l.initial.sink) (g.K.Sink.got l.sink) (g.K.Sink.faults l.initial.sink) (g.K.Sink.faults l.sink) (flat_map (held_name l.class) (take l.k (zip l.names l.name_sets)))
