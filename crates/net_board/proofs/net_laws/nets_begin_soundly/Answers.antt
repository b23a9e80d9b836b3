use Rattle.net_board.proofs.FiringLaws.{first_comes}
use Rattle.net_board.proofs.net_laws.nets_begin_soundly.Goals as goal

pub returns : goal.returns
returns c = first_comes c.ground.ensures
