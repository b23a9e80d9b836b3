use Rattle.std.proofs.Common.{length}
use Rattle.storage_association.proofs.sizes.+distance_of.Given as goal

abbrev pub decreases-distance_of : goal.decreases-distance_of
decreases-distance_of l = length l.dims.now
