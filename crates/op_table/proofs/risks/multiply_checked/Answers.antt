use Rattle.std.proofs.Common.{◌∙◌, sym, rules}
use Rattle.std.specs.Prelude.{is_err}
use Rattle.op_table.specs.declared.Op.TheVariants.{MulChecked}
use Rattle.op_table.specs.Words.{IsWord}
use Rattle.op_table.specs.Operators.{binary}
use Rattle.op_table.proofs.Trapping.{through, test_is, least, two_err, two_can, mul_can}
use Rattle.op_table.proofs.risks.multiply_checked.Goals as goal

pub returns : goal.returns
returns c =
    let fits_a : IsWord c.unwrap_or.result = search rules in
    let fits_b : IsWord c.unwrap_or-2.result = search rules in
    let err = two_err MulChecked (least c.args.a) (least c.args.b) c.unwrap_or.result c.unwrap_or-2.result c.multiply_checked.result fits_a fits_b (sym c.unwrap_or.ensures) (sym c.unwrap_or-2.ensures) c.multiply_checked.ensures in
    test_is c.is_err.result (is_err (binary MulChecked (least c.args.a) (least c.args.b))) (c.is_err.ensures.value ∙ err) (through (mul_can c.args.a c.args.b) (two_can MulChecked c.args.a c.args.b))
