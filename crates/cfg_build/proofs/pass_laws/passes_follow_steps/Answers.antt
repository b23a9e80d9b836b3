use Rattle.cfg_build.proofs.PassesFollow.{passes_follow}
use Rattle.cfg_build.proofs.pass_laws.passes_follow_steps.Goals as goal

pub returns : goal.returns
returns c = λ p input n well. passes_follow c.reaching_is_told.ensures c.endless_ways_meet_cycles.ensures c.executables_lead_to_successors.ensures p input well n
