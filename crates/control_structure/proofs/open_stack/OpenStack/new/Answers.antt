use Rattle.control_structure.proofs.OpenCounts.{AreCounted-none}
use Rattle.control_structure.proofs.open_stack.OpenStack.new.Goals as goal

pub invariant_of-result : goal.invariant_of-result
invariant_of-result c = rw (c.new.ensures.items, c.new-2.ensures.items) AreCounted-none
