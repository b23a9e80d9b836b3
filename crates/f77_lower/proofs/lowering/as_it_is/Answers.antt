use Rattle.std.proofs.Common.{arith}
use Rattle.f77_lower.proofs.Lines.{numbers_pushed}
use Rattle.f77_lower.proofs.lowering.as_it_is.Goals as goal

pub loop-number-preserved : goal.loop-number-preserved
loop-number-preserved c =
    numbers_pushed c.args.source.now c.loop-number.lines.items c.push.new.self.items c.loop-number.number c.in_ok-push.ensures.items (omega (arith, c.loop-number-test.true, c.number_of_lines-number-end.ensures)) c.loop-number.invariant
