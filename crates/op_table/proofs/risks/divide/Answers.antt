use Rattle.op_table.specs.declared.Op.TheVariants.{Div}
use Rattle.op_table.proofs.Trapping.{through, two_can, div_can}
use Rattle.op_table.proofs.risks.divide.Goals as goal

pub returns : goal.returns
returns c = through c.may_be_zero.ensures (through (div_can c.args.a c.args.b) (two_can Div c.args.a c.args.b))
