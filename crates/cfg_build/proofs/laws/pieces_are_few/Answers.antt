use Rattle.cfg_build.proofs.FlowDrawn.{few_flow_nodes}
use Rattle.cfg_build.proofs.laws.pieces_are_few.Goals as goal

pub returns : goal.returns
returns c = λ names execs loops well. few_flow_nodes c.reaching_is_told.ensures c.endless_ways_meet_cycles.ensures names execs loops well
