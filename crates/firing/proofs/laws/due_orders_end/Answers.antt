use Rattle.firing.proofs.OwnLemmas.{not_stopped}
use Rattle.firing.proofs.laws.due_orders_end.Goals as goal

pub returns : goal.returns
returns g c = λ net m p ks limit n end order over le run is. not_stopped (g.S.StepSystem.moves net) (g.S.StepSystem.course net) m p ks order over limit n end le run is
