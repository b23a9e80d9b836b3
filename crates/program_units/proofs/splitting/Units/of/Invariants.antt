use Rattle.program_units.proofs.Cutting.{IsCut}
use Rattle.program_units.proofs.splitting.Units.of.Given as goal

abbrev pub invariant-loop-i : goal.invariant-loop-i
invariant-loop-i l = IsCut l.stmts l.spans.items l.from l.i
