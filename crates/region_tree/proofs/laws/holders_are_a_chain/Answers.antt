use Rattle.region_tree.proofs.Chains.{chain}
use Rattle.region_tree.proofs.laws.holders_are_a_chain.Goals as goal

pub returns : goal.returns
returns c = λ g t r node flow s number exists inside. chain g (c.region_facts.ensures g flow) t s r node number exists inside
