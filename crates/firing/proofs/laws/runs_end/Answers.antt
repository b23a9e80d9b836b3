use Rattle.firing.proofs.Ending.{longest, one_end, order_ends, picks_end}
use Rattle.firing.proofs.RunLemmas.{order_of}
use Rattle.firing.proofs.laws.runs_end.Goals as goal

pub returns-clause-picks : goal.returns-clause-picks
returns-clause-picks g c = λ net picks start limit. picks_end (g.S.StepSystem.moves net) (g.S.StepSystem.course net) picks start limit

pub returns-clause-order : goal.returns-clause-order
returns-clause-order g c = λ net start limit is_sound step control. order_ends (g.S.StepSystem.sound net) (g.S.StepSystem.moves net) (g.S.StepSystem.course net) (g.S.StepSystem.in_step net) (g.met.S.StepSystem.lawful net) (g.met.S.StepSystem.steady net) (g.met.S.SourceOrder.ordered net) start limit is_sound step control

pub returns-clause-one : goal.returns-clause-one
returns-clause-one g c = λ w start limit n m end other run rest. one_end w start limit n m end other run rest

pub returns-clause-nodes : goal.returns-clause-nodes
returns-clause-nodes g c = λ w start limit n end run. order_of w start n run.going

pub returns-clause-longest : goal.returns-clause-longest
returns-clause-longest g c = λ w start limit n m end run le going. longest w start limit n m end run le going
