use Rattle.cfg_build.proofs.Shaped.{shaped}
use Rattle.cfg_build.proofs.laws.flow_graph_has_shape.Goals as goal

pub returns : goal.returns
returns c = λ names execs loops well. shaped c.reaching_is_told.ensures c.endless_ways_meet_cycles.ensures names execs loops well
