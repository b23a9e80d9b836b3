use Rattle.cfg_build.proofs.PassesLie.{within_step, lies}
use Rattle.cfg_build.proofs.StepsBegin.{begins_step}
use Rattle.cfg_build.proofs.step_laws.passes_lie_within_steps.Goals as goal

pub returns-clause-within : goal.returns-clause-within
returns-clause-within c = λ p input n i well exists. within_step c.reaching_is_told.ensures c.endless_ways_meet_cycles.ensures c.executables_lead_to_successors.ensures p input well n i exists

pub returns-clause-lies : goal.returns-clause-lies
returns-clause-lies c = λ p input passed well runs. lies c.reaching_is_told.ensures c.endless_ways_meet_cycles.ensures c.executables_lead_to_successors.ensures p input well passed runs

pub returns-clause-own : goal.returns-clause-own
returns-clause-own c = λ p input k passed well is. begins_step c.reaching_is_told.ensures c.endless_ways_meet_cycles.ensures p well c.executables_lead_to_successors.ensures input k passed is
