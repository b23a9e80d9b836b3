use Rattle.region_tree.proofs.Nestings.{start_outside}
use Rattle.region_tree.proofs.laws.start_is_outside.Goals as goal

pub returns : goal.returns
returns c = λ g t r flow s number inside. start_outside g (c.region_facts.ensures g flow) t s.regions r number inside
