use Rattle.cfg_build.proofs.NoReturn.{no_return}
use Rattle.cfg_build.proofs.pass_laws.runs_leave_the_start.Goals as goal

pub returns : goal.returns
returns c = λ p input n well running. no_return c.reaching_is_told.ensures c.endless_ways_meet_cycles.ensures p input well n running
