use Rattle.control_structure.proofs.NestingWalk.{IsWalk}
use Rattle.control_structure.proofs.nesting.nesting_of.Given as goal

abbrev pub invariant-loop-i : goal.invariant-loop-i
invariant-loop-i l = IsWalk l.stmts l.i l.stack l.heads.items
