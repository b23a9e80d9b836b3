use Rattle.std.proofs.Common.{◌≡◌, length}
use Rattle.form_advice.specs.Shapes.{has_point}
use Rattle.form_advice.proofs.shapes.has_point.Given as goal

abbrev pub invariant-loop-rest : goal.invariant-loop-rest
invariant-loop-rest l = has_point l.rest ≡ has_point l.plain

abbrev pub decreases-loop-rest : goal.decreases-loop-rest
decreases-loop-rest l = length l.rest
