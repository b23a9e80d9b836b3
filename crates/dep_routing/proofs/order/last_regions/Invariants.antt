use Rattle.dep_routing.specs.Order.{IsOrdering}
use Rattle.dep_routing.proofs.order.last_regions.Given as goal

abbrev pub invariant-loop-r : goal.invariant-loop-r
invariant-loop-r l = IsOrdering l.t l.r 0 l.marks.items l.regions.items
