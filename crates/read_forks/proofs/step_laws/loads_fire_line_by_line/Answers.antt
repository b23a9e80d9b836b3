use Rattle.read_forks.proofs.StepLaws.{in_steps}
use Rattle.read_forks.proofs.step_laws.loads_fire_line_by_line.Goals as goal

pub returns : goal.returns
returns c = in_steps
