use Rattle.closed_walks.proofs.Endless.{endless_ways_meet_cycles as met}
use Rattle.closed_walks.proofs.laws.endless_ways_meet_cycles.Goals as goal

pub returns : goal.returns
returns c = met
