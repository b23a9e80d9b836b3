-- the absolute value, through a word's bits
use Rattle.std.proofs.Common.{◌∙◌, rules}
use Rattle.op_table.specs.Words.{IsWord}
use Rattle.op_table.proofs.Rows.{bits_back, magnitude_is}
use Rattle.op_table.proofs.words.magnitude.Goals as goal

pub returns : goal.returns
returns c =
    let fits : IsWord c.wrapping_abs.result = search rules in
    bits_back c.wrapping_abs.result fits ∙ magnitude_is c.args.a c.wrapping_abs.result c.ranges.a c.wrapping_abs.ensures
