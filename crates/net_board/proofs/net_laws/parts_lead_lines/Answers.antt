use Rattle.net_board.proofs.NetPartsLaws.{parts_lead}
use Rattle.net_board.proofs.net_laws.parts_lead_lines.Goals as goal

pub returns : goal.returns
returns c = parts_lead c.ground.ensures
