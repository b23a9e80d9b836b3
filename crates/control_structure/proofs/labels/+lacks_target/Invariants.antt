use Rattle.control_structure.proofs.Usable.{guards}
use Rattle.control_structure.proofs.labels.+lacks_target.Given as goal

abbrev pub decreases-lacks_target : goal.decreases-lacks_target
decreases-lacks_target l = guards l.stmt.now
