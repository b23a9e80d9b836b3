use Rattle.closed_walks.specs.Graph.{edge_count}
use Rattle.region_tree.specs.Tree.{entry_of, exit_of}
use Rattle.dep_routing.specs.Numbers.{AreNumbersBelow}
use Rattle.dep_routing.proofs.borders.borders_of.Given as goal

abbrev pub invariant-loop-r : goal.invariant-loop-r
invariant-loop-r l = record {
  entered : AreNumbersBelow (edge_count l.g) l.r (entry_of l.t) l.entered.items;
  left : AreNumbersBelow (edge_count l.g) l.r (exit_of l.t) l.left.items;
}
