use Rattle.std.proofs.Common.{refl}
use Rattle.redundancy.specs.Digests.{mixed}
use Rattle.redundancy.proofs.trees.mix.Goals as goal

pub returns : goal.returns
unfolding mixed
returns c = refl
