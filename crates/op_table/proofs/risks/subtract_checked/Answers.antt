use Rattle.std.proofs.Common.{◌∙◌, sym, rules}
use Rattle.op_table.specs.declared.Op.TheVariants.{SubChecked}
use Rattle.op_table.specs.Words.{IsWord}
use Rattle.op_table.proofs.Trapping.{least, greatest, two_err, two_can, sub_high, sub_else}
use Rattle.op_table.proofs.risks.subtract_checked.Goals as goal

pub returns-else-is_err : goal.returns-else-is_err
returns-else-is_err c =
    let fits_1 : IsWord c.unwrap_or.result = search rules in
    let fits_2 : IsWord c.unwrap_or-2.result = search rules in
    let fits_3 : IsWord c.unwrap_or-3.result = search rules in
    let fits_4 : IsWord c.unwrap_or-4.result = search rules in
    let low = two_err SubChecked (least c.args.a) (greatest c.args.b) c.unwrap_or.result c.unwrap_or-2.result c.subtract_checked-low.result fits_1 fits_2 (sym c.unwrap_or.ensures) (sym c.unwrap_or-2.ensures) c.subtract_checked-low.ensures in
    let high = two_err SubChecked (greatest c.args.a) (least c.args.b) c.unwrap_or-3.result c.unwrap_or-4.result c.subtract_checked-high.result fits_3 fits_4 (sym c.unwrap_or-3.ensures) (sym c.unwrap_or-4.ensures) c.subtract_checked-high.ensures in
    let can = two_can SubChecked c.args.a c.args.b in
    let is = c.is_err-else-is_err.ensures.value ∙ high in
    (λ e. can.0 (sub_high c.args.a c.args.b (sym is ∙ e)), λ t. is ∙ sub_else c.args.a c.args.b (sym low ∙ sym c.is_err.ensures.value ∙ c.if-is_err.false) (can.1 t))
