use Rattle.op_board.proofs.KnownTraps.{traps_touch}
use Rattle.op_board.proofs.structure_laws.known_traps_touch_output.Goals as goal

pub returns : goal.returns
returns c = λ x piece i is exists inside traps. traps_touch x is piece i exists inside traps
