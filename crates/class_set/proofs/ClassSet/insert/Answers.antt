use Rattle.std.proofs.Common.{arith}
use Rattle.class_set.specs.ClassSet.{holds}
use Rattle.class_set.proofs.Bits.{bit_of-set}
use Rattle.class_set.proofs.ClassSet.insert.Goals as goal

pub returns : goal.returns
unfolding holds
returns g c = λ k. bit_of-set c.args.self.now.words c.args.n k (omega arith)
