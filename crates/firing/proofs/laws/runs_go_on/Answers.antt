use Rattle.firing.proofs.ResumeLemmas.{order_goes_on, picks_go_on}
use Rattle.firing.proofs.laws.runs_go_on.Goals as goal

pub returns-clause-picks : goal.returns-clause-picks
returns-clause-picks g c = λ net picks start a some. picks_go_on (g.S.StepSystem.moves net) (g.S.StepSystem.course net) picks some start a

pub returns-clause-order : goal.returns-clause-order
returns-clause-order g c = λ net start a. order_goes_on (g.S.StepSystem.moves net) (g.S.StepSystem.course net) start a
