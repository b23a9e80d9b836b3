use Rattle.std.specs.Prelude.{◌≡◌, take}
use Rattle.closed_walks.specs.Numbering.{fresh}
use Rattle.graph_jobs.proofs.regions.class_count.Given as goal

abbrev pub invariant-loop-class : goal.invariant-loop-class
invariant-loop-class l = l.count ≡ fresh (take l.class-index l.classes)
