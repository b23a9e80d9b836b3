use Rattle.std.proofs.Common.{◌≡◌, take, drop}
use Rattle.layout_rules.specs.Faults.{first_line, first_after}
use Rattle.layout_rules.specs.Jumps.{jumps_into}
use Rattle.control_structure.proofs.jumps.first_jump_into.Given as goal

abbrev pub invariant-loop-i : goal.invariant-loop-i
invariant-loop-i l = first_line (jumps_into l.stmts) l.stmts ≡ first_after (jumps_into l.stmts) (take l.i l.stmts) (drop l.i l.stmts)
