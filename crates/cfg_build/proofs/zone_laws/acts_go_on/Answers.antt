use Rattle.cfg_build.proofs.RangeEntries.{act_goes_on}
use Rattle.cfg_build.proofs.zone_laws.acts_go_on.Goals as goal

pub returns : goal.returns
returns c = λ names execs loops node well below acts. act_goes_on c.reaching_is_told.ensures c.endless_ways_meet_cycles.ensures names execs loops well node below acts
