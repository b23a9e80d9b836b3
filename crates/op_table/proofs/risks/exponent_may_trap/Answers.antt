use Rattle.std.proofs.Common.{None, Some}
use Rattle.op_table.specs.declared.Op.TheVariants.{PowChecked}
use Rattle.op_table.proofs.Trapping.{through, two_can, exponent_test, exponent_zero_test}
use Rattle.op_table.proofs.risks.exponent_may_trap.Goals as goal

pub returns-then-b-ne0 : goal.returns-then-b-ne0
returns-then-b-ne0 c = through (exponent_test c.args.b c.ranges.b c.if-b-ne0.true) (two_can PowChecked None (Some c.args.b))

pub returns-else-b-ne0 : goal.returns-else-b-ne0
returns-else-b-ne0 c = through (exponent_zero_test c.args.b c.ranges.b c.if-b-ne0.false) (two_can PowChecked None (Some c.args.b))
