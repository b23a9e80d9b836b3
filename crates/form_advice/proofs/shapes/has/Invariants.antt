use Rattle.std.proofs.Common.{◌≡◌, length}
use Rattle.form_advice.specs.Shapes.{has}
use Rattle.form_advice.proofs.shapes.has.Given as goal

abbrev pub invariant-loop-rest : goal.invariant-loop-rest
invariant-loop-rest l = has l.rest l.part ≡ has l.text l.part

abbrev pub decreases-loop-rest : goal.decreases-loop-rest
decreases-loop-rest l = length l.rest
