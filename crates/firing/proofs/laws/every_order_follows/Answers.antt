use Rattle.firing.proofs.Pacing.{follows}
use Rattle.firing.proofs.laws.every_order_follows.Goals as goal

pub returns : goal.returns
returns g c = λ net start text stage own is_sound simulated. follows (g.S.StepSystem.sound net) (g.S.StepSystem.moves net) (g.met.S.StepSystem.lawful net) start text stage own is_sound simulated
