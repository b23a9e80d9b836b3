use Rattle.cfg_build.proofs.PassWalks.{pass_leaves, from_start, edges_exist, lead_on}
use Rattle.cfg_build.proofs.pass_laws.passes_are_a_walk.Goals as goal

pub returns-clause-each : goal.returns-clause-each
returns-clause-each c = λ p input edge m well exists. pass_leaves c.reaching_is_told.ensures c.endless_ways_meet_cycles.ensures p input well edge m exists

pub returns-clause-start : goal.returns-clause-start
returns-clause-start c = λ p input well. from_start c.reaching_is_told.ensures c.endless_ways_meet_cycles.ensures p input well

pub returns-clause-edges : goal.returns-clause-edges
returns-clause-edges c = λ p input n well. edges_exist c.reaching_is_told.ensures c.endless_ways_meet_cycles.ensures p input well n

pub returns-clause-leads_on : goal.returns-clause-leads_on
returns-clause-leads_on c = λ p input n well runs. lead_on c.reaching_is_told.ensures c.endless_ways_meet_cycles.ensures p input well n runs
