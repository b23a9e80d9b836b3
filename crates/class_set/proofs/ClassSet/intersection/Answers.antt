use Rattle.class_set.specs.ClassSet.{holds}
use Rattle.class_set.proofs.ClassSet.intersection.Goals as goal

pub returns : goal.returns
unfolding holds
returns g c = c.intersect.ensures
