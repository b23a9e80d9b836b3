use Rattle.op_table.specs.declared.Op.TheVariants.{Step}
use Rattle.op_table.proofs.Trapping.{through, one_can, step_can}
use Rattle.op_table.proofs.risks.step.Goals as goal

pub returns : goal.returns
returns c = through c.may_be_zero.ensures (through (step_can c.args.a) (one_can Step c.args.a))
