use Rattle.std.specs.Prelude.{◌-◌, ◌≤◌}
use Rattle.graph_jobs.specs.Regions.{region_lines}
use Rattle.graph_texts.proofs.Texts.{IsTelling}
use Rattle.graph_jobs.proofs.regions.tell_tree.Given as goal

abbrev pub invariant-loop-r : goal.invariant-loop-r
invariant-loop-r g l = IsTelling l.initial.buffer l.buffer (g.K.Sink.got l.initial.sink) (g.K.Sink.got l.sink) (g.K.Sink.faults l.initial.sink) (g.K.Sink.faults l.sink) (region_lines l.tree (l.r - 1)) × (1 ≤ l.r)
