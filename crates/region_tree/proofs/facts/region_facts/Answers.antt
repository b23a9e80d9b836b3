use Rattle.region_tree.proofs.facts.region_facts.Goals as goal

pub returns : goal.returns
returns c = λ g flow. record {
  sides = λ a b p. c.sides_of_classes.ensures g a b flow.sound flow.strong p;
  either = λ a b p. c.class_order.ensures.first g a b flow p;
  not_both = λ a b p before after. c.class_order.ensures.not_both g a b flow p before after;
  left = λ a b node p before inside way. c.regions_are_passed.ensures.exit g a b node flow p before inside way;
  one_exit = λ a b d r s. c.region_edges.ensures.entry g a b d flow r s;
  one_entry = λ a b d r s. c.region_edges.ensures.exit g a b d flow r s;
  by_nodes = λ a b d e r s equal. c.region_edges.ensures.nodes g a b d e flow r s equal;
  nest = λ a b d e r s apart. c.regions_nest.ensures g a b d e flow r s apart;
  rank = c.edge_ranks.ensures.rank g flow;
  grown = λ a b edges p before grown i within inside. c.edge_ranks.ensures.grown g a b edges flow p before grown i within inside;
  passed_region = λ node a b p away. c.passed_nodes.ensures.region g node a b flow p away;
  passed_inside = λ node a b n p. c.passed_nodes.ensures.inside g node a b n flow p;
}
