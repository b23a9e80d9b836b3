use Rattle.read_forks.proofs.StepLaws.{nothing_near, stays_near}
use Rattle.read_forks.proofs.step_laws.fired_loads_are_near.Goals as goal

pub returns-clause-begins : goal.returns-clause-begins
returns-clause-begins c = nothing_near

pub returns-clause-stays : goal.returns-clause-stays
returns-clause-stays c = stays_near
