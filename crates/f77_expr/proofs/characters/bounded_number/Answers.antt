use Rattle.f77_expr.proofs.Numbers.{bounded-more}
use Rattle.f77_expr.proofs.characters.bounded_number.Goals as goal

pub loop-digit-preserved : goal.loop-digit-preserved
loop-digit-preserved c = bounded-more c.args.digits.now c.loop-digit.digit-index 0 c.loop-digit.number c.number_after-number.result c.loop-digit-test.true c.loop-digit.invariant c.number_after-number.ensures
