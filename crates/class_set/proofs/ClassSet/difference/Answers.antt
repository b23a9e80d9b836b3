use Rattle.class_set.specs.ClassSet.{holds}
use Rattle.class_set.proofs.ClassSet.difference.Goals as goal

pub returns : goal.returns
unfolding holds
returns g c = c.subtract.ensures
