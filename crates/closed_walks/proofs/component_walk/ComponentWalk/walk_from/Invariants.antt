use Rattle.closed_walks.specs.Graph.{edge_count}
use Rattle.closed_walks.specs.Component.{marked, stage_of, IsFound, IsWalk, KeepsFound, work}
use Rattle.closed_walks.proofs.component_walk.ComponentWalk.walk_from.Given as goal

abbrev pub invariant-loop-first : goal.invariant-loop-first
invariant-loop-first l = record {
  walk : IsWalk l.g (marked l.avoided) l.self;
  kept : KeepsFound l.fn.self l.self;
  found : IsFound (stage_of l.self.stages.items l.root);
}

abbrev pub decreases-loop-first : goal.decreases-loop-first
decreases-loop-first l = work (edge_count l.g) l.self
