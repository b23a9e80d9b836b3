use Rattle.std.proofs.Common.{◌≡◌, length}
use Rattle.unit_statements.specs.Units.{unit_named}
use Rattle.unit_statements.proofs.units.unit_named.Given as goal

abbrev pub invariant-loop-rest : goal.invariant-loop-rest
invariant-loop-rest l = unit_named l.name l.rest ≡ unit_named l.name l.stmts

abbrev pub decreases-loop-rest : goal.decreases-loop-rest
decreases-loop-rest l = length l.rest
