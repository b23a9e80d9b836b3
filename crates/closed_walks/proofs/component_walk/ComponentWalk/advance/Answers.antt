use Rattle.closed_walks.proofs.Stages.{Holds-of_last}
use Rattle.closed_walks.proofs.component_walk.ComponentWalk.advance.Goals as goal

pub end_segment-requires-clause-some : goal.end_segment-requires-clause-some
end_segment-requires-clause-some c = c.requires.walk.within c.args.first (Holds-of_last c.args.self.now.bounds.items c.args.first c.requires.last)
