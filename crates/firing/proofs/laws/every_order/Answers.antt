use Rattle.firing.proofs.Counting.{writes_prefix}
use Rattle.firing.proofs.Resting.{settles}
use Rattle.firing.proofs.Trapping.{traps}
use Rattle.firing.proofs.laws.every_order.Goals as goal

pub returns-clause-rest : goal.returns-clause-rest
returns-clause-rest g c = λ net m ks is_sound whole none. settles (g.S.StepSystem.sound net) (g.S.StepSystem.moves net) (g.met.S.StepSystem.lawful net) m ks is_sound whole none

pub returns-clause-trap : goal.returns-clause-trap
returns-clause-trap g c = λ net m ks trap line is_sound order trapped. traps (g.S.StepSystem.sound net) (g.S.StepSystem.moves net) (g.met.S.StepSystem.lawful net) (trap, line) m ks is_sound order trapped

pub returns-clause-prefix : goal.returns-clause-prefix
returns-clause-prefix g c = λ net m ks others is_sound order other none fewer. writes_prefix (g.S.StepSystem.sound net) (g.S.StepSystem.moves net) (g.met.S.StepSystem.lawful net) m ks others is_sound order other none fewer
