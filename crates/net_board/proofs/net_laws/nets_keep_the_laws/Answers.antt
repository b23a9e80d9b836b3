use Rattle.net_board.proofs.FiringLaws.{net_laws}
use Rattle.net_board.proofs.net_laws.nets_keep_the_laws.Goals as goal

pub returns : goal.returns
returns c = net_laws
