use Rattle.dep_routing.proofs.facts.tree_facts.Goals as goal

pub returns : goal.returns
returns c = λ g t flow s. record {
  flow = flow;
  tree = s;
  borders = λ r number. c.region_borders.ensures g t r flow s number;
  one_entry = λ q r number other same. c.region_numbers.ensures.entry g t q r flow s number other same;
  one_exit = λ q r number other same. c.region_numbers.ensures.exit g t q r flow s number other same;
  nest = λ q r number other apart. c.tree_nests.ensures.apart g t q r flow s number other apart;
  one_way = λ q r number other part back. c.tree_nests.ensures.one_way g t q r flow s number other part back;
  start = λ r number inside. c.start_is_outside.ensures g t r flow s number inside;
  own = λ node a b p away. c.passed_nodes_are_regions.ensures g t node a b flow s p away;
  rank = c.tree_ranks.ensures g t flow s;
  chain = λ r node number exists inside. c.holders_are_a_chain.ensures g t r node flow s number exists inside;
}
