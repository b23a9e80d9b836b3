use Rattle.program_units.proofs.UnitWalk.{IsAbove}
use Rattle.program_units.proofs.unit_order.first_out_of_unit.Given as goal

abbrev pub invariant-loop-s : goal.invariant-loop-s
invariant-loop-s l = IsAbove l.stmts l.s-index l.follows_end l.in_main
