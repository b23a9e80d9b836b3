use Rattle.region_tree.proofs.OneTree.{one_tree}
use Rattle.region_tree.proofs.laws.one_tree.Goals as goal

pub returns : goal.returns
returns c = λ g t u flow s v. one_tree g (c.region_facts.ensures g flow) t u s v
