use Rattle.control_structure.proofs.EndsMet.{IsWalkBack}
use Rattle.control_structure.proofs.blocks.ends_after.Given as goal

abbrev pub invariant-loop-i : goal.invariant-loop-i
invariant-loop-i l = IsWalkBack l.are_arms l.stmts l.i l.met.items l.ends.items

abbrev pub decreases-loop-i : goal.decreases-loop-i
decreases-loop-i l = l.i
