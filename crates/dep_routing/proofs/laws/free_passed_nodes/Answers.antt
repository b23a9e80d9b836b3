use Rattle.dep_routing.proofs.Quietness.{passed_touches}
use Rattle.dep_routing.proofs.laws.free_passed_nodes.Goals as goal

pub returns : goal.returns
returns c = λ g t touches line node a b flow s passed away free. passed_touches g t (c.tree_facts.ensures g t flow s) touches line node a b passed away free
