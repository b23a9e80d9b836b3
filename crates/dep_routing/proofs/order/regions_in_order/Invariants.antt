use Rattle.std.proofs.Common.{◌+◌, ◌-◌, length}
use Rattle.dep_routing.specs.Order.{IsOrdering, unmarked}
use Rattle.dep_routing.proofs.order.regions_in_order.Given as goal

abbrev pub invariant-loop-done : goal.invariant-loop-done
invariant-loop-done l = IsOrdering l.t (length l.t.entries) l.done l.marks.items l.order.items

abbrev pub decreases-loop-done : goal.decreases-loop-done
decreases-loop-done l = unmarked l.marks.items + length l.order.items - l.done
