use Rattle.std.proofs.Common.{length}
use Rattle.storage_checks.proofs.dimensions.+offset.Given as goal

abbrev pub decreases-offset : goal.decreases-offset
decreases-offset l = length l.dims.now
