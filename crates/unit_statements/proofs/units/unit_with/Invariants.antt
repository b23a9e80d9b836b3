use Rattle.std.proofs.Common.{◌≡◌, length}
use Rattle.unit_statements.specs.Units.{unit_with}
use Rattle.unit_statements.proofs.units.unit_with.Given as goal

abbrev pub invariant-loop-rest : goal.invariant-loop-rest
invariant-loop-rest l = unit_with l.line l.rest ≡ unit_with l.line l.stmts

abbrev pub decreases-loop-rest : goal.decreases-loop-rest
decreases-loop-rest l = length l.rest
