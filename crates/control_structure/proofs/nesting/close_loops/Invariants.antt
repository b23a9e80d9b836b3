use Rattle.std.proofs.Common.{◌≡◌, length}
use Rattle.control_structure.specs.OpenStack.{without_ended}
use Rattle.control_structure.proofs.nesting.close_loops.Given as goal

abbrev pub invariant-loop-entry : goal.invariant-loop-entry
invariant-loop-entry l = without_ended l.label l.stack ≡ without_ended l.label l.fn.stack

abbrev pub decreases-loop-entry : goal.decreases-loop-entry
decreases-loop-entry l = length l.stack
