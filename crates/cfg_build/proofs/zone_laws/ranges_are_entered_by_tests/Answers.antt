use Rattle.cfg_build.proofs.RangeEntries.{enters, returns}
use Rattle.cfg_build.proofs.zone_laws.ranges_are_entered_by_tests.Goals as goal

pub returns-clause-enters : goal.returns-clause-enters
returns-clause-enters c = λ names execs loops n e well few plain outside inside. enters c.reaching_is_told.ensures c.endless_ways_meet_cycles.ensures names execs loops well n few e plain outside inside

pub returns-clause-returns : goal.returns-clause-returns
returns-clause-returns c = λ names execs loops e loop well plain acts increments. returns c.reaching_is_told.ensures c.endless_ways_meet_cycles.ensures names execs loops well e loop plain acts increments
