use Rattle.std.proofs.Common.{◌∙◌, sym, rules}
use Rattle.std.specs.Prelude.{is_err}
use Rattle.op_table.specs.declared.Op.TheVariants.{NegChecked}
use Rattle.op_table.specs.Words.{IsWord}
use Rattle.op_table.specs.Operators.{unary}
use Rattle.op_table.proofs.Trapping.{through, test_is, least, one_err, one_can, neg_can}
use Rattle.op_table.proofs.risks.negate_checked.Goals as goal

pub returns : goal.returns
returns c =
    let fits : IsWord c.unwrap_or.result = search rules in
    let err = one_err NegChecked (least c.args.a) c.unwrap_or.result c.negate_checked.result fits (sym c.unwrap_or.ensures) c.negate_checked.ensures in
    test_is c.is_err.result (is_err (unary NegChecked (least c.args.a))) (c.is_err.ensures.value ∙ err) (through (neg_can c.args.a) (one_can NegChecked c.args.a))
