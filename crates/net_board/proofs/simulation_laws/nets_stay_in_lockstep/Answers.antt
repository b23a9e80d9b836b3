use Rattle.net_board.proofs.LockstepLaws.{keeps_step}
use Rattle.net_board.proofs.RestLaws.{source_order}
use Rattle.net_board.proofs.simulation_laws.nets_stay_in_lockstep.Goals as goal

pub returns-clause-steady : goal.returns-clause-steady
returns-clause-steady c = λ net. keeps_step net

pub returns-clause-ordered : goal.returns-clause-ordered
returns-clause-ordered c = λ net. source_order net
