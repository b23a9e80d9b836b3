use Rattle.region_tree.proofs.Chains.{IsTreeRank-of}
use Rattle.region_tree.proofs.laws.tree_ranks.Goals as goal

pub returns : goal.returns
returns c = λ g t flow s. let f = c.region_facts.ensures g flow in (f.rank.0, f.rank.1, IsTreeRank-of g f t s)
