use Rattle.net_board.proofs.NetPartsLaws.{net_made}
use Rattle.net_board.proofs.net_laws.parts_make_nets.Goals as goal

pub returns : goal.returns
returns c = net_made c.well_formed_programs_can_run.ensures
