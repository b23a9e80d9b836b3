use Rattle.net_board.proofs.WokenNodeLaws.{wakes}
use Rattle.net_board.proofs.net_laws.woken_nodes_are_all.Goals as goal

pub returns : goal.returns
returns c = wakes
