use Rattle.std.proofs.Common.{◌∙◌, ap, None, Some}
use Rattle.std.specs.Prelude.{unsigned_abs}
use Rattle.op_table.specs.declared.Op.TheVariants.{PowChecked}
use Rattle.op_table.proofs.Rows.{bits_back}
use Rattle.op_table.proofs.Trapping.{through, two_can, base_test}
use Rattle.op_table.proofs.risks.base_may_trap.Goals as goal

pub returns : goal.returns
returns c = through (base_test c.args.a c.unsigned_abs.result (c.unsigned_abs.ensures.value ∙ ap unsigned_abs (bits_back c.args.a c.ranges.a))) (two_can PowChecked (Some c.args.a) None)
