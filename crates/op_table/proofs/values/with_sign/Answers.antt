-- the negative of the absolute value, both wrapped
use Rattle.std.proofs.Common.{◌∙◌, ap, sym, Ok, rules}
use Rattle.op_table.specs.Words.{IsWord, wrapped}
use Rattle.op_table.specs.Operators.{applied, binary}
use Rattle.op_table.proofs.Rows.{bits_back, negative_on, with_sign_negative}
use Rattle.op_table.proofs.values.with_sign.Goals as goal

pub returns-else-b-ge0 : goal.returns-else-b-ge0
unfolding applied binary
returns-else-b-ge0 c =
    let fits_magnitude : IsWord c.magnitude-else-b-ge0.result = search rules in
    let fits : IsWord c.negative.result = search rules in
    ap Ok (bits_back c.negative.result fits
    ∙ negative_on c.args.a c.magnitude-else-b-ge0.result c.negative.result c.ranges.a fits_magnitude c.magnitude-else-b-ge0.ensures c.negative.ensures
    ∙ ap wrapped (sym (with_sign_negative c.args.a c.args.b c.ranges.b c.if-b-ge0.false)))
