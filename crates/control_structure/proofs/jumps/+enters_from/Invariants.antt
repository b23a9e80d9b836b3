use Rattle.control_structure.proofs.Usable.{guards}
use Rattle.control_structure.proofs.jumps.+enters_from.Given as goal

abbrev pub decreases-enters_from : goal.decreases-enters_from
decreases-enters_from l = guards l.stmt.now
