-- a sum with a product, both wrapped
use Rattle.std.proofs.Common.{◌∙◌, ap, Ok, rules}
use Rattle.op_table.specs.Words.{IsWord}
use Rattle.op_table.specs.Operators.{applied, ternary}
use Rattle.op_table.proofs.Rows.{bits_back, place_is}
use Rattle.op_table.proofs.values.place.Goals as goal

pub returns : goal.returns
unfolding applied ternary
returns c =
    let fits_product : IsWord c.product.result = search rules in
    let fits : IsWord c.sum.result = search rules in
    ap Ok (bits_back c.sum.result fits ∙ place_is c.args.p c.args.d c.args.size c.product.result c.sum.result c.ranges.p c.ranges.d c.ranges.size fits_product c.product.ensures c.sum.ensures)
