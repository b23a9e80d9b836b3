use Rattle.class_set.specs.ClassSet.{holds}
use Rattle.class_set.specs.Members.{bit_of}
use Rattle.class_set.proofs.Bits.{next_from_least}
use Rattle.class_set.proofs.ClassSet.next_after.Goals as goal

pub returns-clause-next : goal.returns-clause-next
unfolding holds
returns-clause-next g c = next_from_least (bit_of c.args.self.now.words) c.args.n c.least_from.result (rw (← c.first_above.ensures) c.least_from.ensures.least)
