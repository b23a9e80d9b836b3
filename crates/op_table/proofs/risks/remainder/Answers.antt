use Rattle.op_table.specs.declared.Op.TheVariants.{Mod}
use Rattle.op_table.proofs.Trapping.{through, two_can, mod_can}
use Rattle.op_table.proofs.risks.remainder.Goals as goal

pub returns : goal.returns
returns c = through c.may_be_zero.ensures (through (mod_can c.args.a c.args.b) (two_can Mod c.args.a c.args.b))
