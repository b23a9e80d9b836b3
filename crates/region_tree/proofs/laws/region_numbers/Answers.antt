use Rattle.region_tree.proofs.Within.{one_number_exit}
use Rattle.region_tree.proofs.laws.region_numbers.Goals as goal

pub returns-clause-exit : goal.returns-clause-exit
returns-clause-exit c = λ g t q r flow s number other same. one_number_exit g (c.region_facts.ensures g flow) t s.regions q r number other same
