use Rattle.class_set.specs.ClassSet.{holds}
use Rattle.class_set.proofs.Bits.{bit_of-blank}
use Rattle.class_set.proofs.ClassSet.empty.Goals as goal

pub returns : goal.returns
unfolding holds
returns g c = λ k. bit_of-blank g.row.W k
