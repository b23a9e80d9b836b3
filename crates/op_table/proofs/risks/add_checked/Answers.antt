use Rattle.std.proofs.Common.{◌∙◌, sym, rules}
use Rattle.op_table.specs.declared.Op.TheVariants.{AddChecked}
use Rattle.op_table.specs.Words.{IsWord}
use Rattle.op_table.proofs.Trapping.{least, greatest, two_err, two_can, add_high, add_else}
use Rattle.op_table.proofs.risks.add_checked.Goals as goal

pub returns-else-is_err : goal.returns-else-is_err
returns-else-is_err c =
    let fits_1 : IsWord c.unwrap_or.result = search rules in
    let fits_2 : IsWord c.unwrap_or-2.result = search rules in
    let fits_3 : IsWord c.unwrap_or-3.result = search rules in
    let fits_4 : IsWord c.unwrap_or-4.result = search rules in
    let low = two_err AddChecked (least c.args.a) (least c.args.b) c.unwrap_or.result c.unwrap_or-2.result c.add_checked-low.result fits_1 fits_2 (sym c.unwrap_or.ensures) (sym c.unwrap_or-2.ensures) c.add_checked-low.ensures in
    let high = two_err AddChecked (greatest c.args.a) (greatest c.args.b) c.unwrap_or-3.result c.unwrap_or-4.result c.add_checked-high.result fits_3 fits_4 (sym c.unwrap_or-3.ensures) (sym c.unwrap_or-4.ensures) c.add_checked-high.ensures in
    let can = two_can AddChecked c.args.a c.args.b in
    let is = c.is_err-else-is_err.ensures.value ∙ high in
    (λ e. can.0 (add_high c.args.a c.args.b (sym is ∙ e)), λ t. is ∙ add_else c.args.a c.args.b (sym low ∙ sym c.is_err.ensures.value ∙ c.if-is_err.false) (can.1 t))
