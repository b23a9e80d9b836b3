use Rattle.cfg_build.proofs.Strong.{flow_graph}
use Rattle.cfg_build.proofs.laws.flow_graph_is_strong.Goals as goal

pub returns : goal.returns
returns c = λ names execs loops well. flow_graph c.reaching_is_told.ensures c.endless_ways_meet_cycles.ensures names execs loops well
