use Rattle.cfg_build.proofs.LeavingEdges.{ways_counted, hold_leads_to_end}
use Rattle.cfg_build.proofs.laws.pieces_have_ways_out.Goals as goal

pub returns-clause-count : goal.returns-clause-count
returns-clause-count c = λ names execs loops node well below. ways_counted c.reaching_is_told.ensures c.endless_ways_meet_cycles.ensures names execs loops well node below

pub returns-clause-holds : goal.returns-clause-holds
returns-clause-holds c = λ names execs loops node well below is. hold_leads_to_end c.reaching_is_told.ensures c.endless_ways_meet_cycles.ensures names execs loops well node below is
