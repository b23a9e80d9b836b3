use Rattle.op_table.specs.declared.Op.TheVariants.{Pow}
use Rattle.op_table.proofs.Trapping.{through, two_can, pow_can, true-false}
use Rattle.op_table.proofs.risks.raise.Goals as goal

pub returns-then-may_be_zero : goal.returns-then-may_be_zero
returns-then-may_be_zero c =
    let can = through (pow_can c.args.a c.args.b) (two_can Pow c.args.a c.args.b) in
    (λ e. can.0 (c.may_be_zero.ensures.0 c.if-may_be_zero.true, c.may_be_below.ensures.0 e), λ t. let h = can.1 t in c.may_be_below.ensures.1 h.1)

pub returns-else-may_be_zero : goal.returns-else-may_be_zero
returns-else-may_be_zero c =
    let can = through (pow_can c.args.a c.args.b) (two_can Pow c.args.a c.args.b) in
    (λ e. true-false e c.if-may_be_zero.false, λ t. let h = can.1 t in c.may_be_zero.ensures.1 h.0)
