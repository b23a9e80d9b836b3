use Rattle.dep_routing.proofs.Quietness.{free_or_largest, largest_one}
use Rattle.dep_routing.proofs.laws.largest_quiet_regions.Goals as goal

pub returns-clause-some : goal.returns-clause-some
returns-clause-some c = λ g t touches line node flow s exists. free_or_largest g t (c.tree_facts.ensures g t flow s) touches line node exists

pub returns-clause-one : goal.returns-clause-one
returns-clause-one c = λ g t touches line node q r flow s a b. largest_one g t (c.tree_facts.ensures g t flow s) touches line node q r a b
