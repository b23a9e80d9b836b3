-- the quotient, through a word's bits
use Rattle.std.proofs.Common.{◌∙◌, rules}
use Rattle.op_table.specs.Words.{IsWord}
use Rattle.op_table.proofs.Rows.{bits_back, quotient_is}
use Rattle.op_table.proofs.words.quotient.Goals as goal

pub returns : goal.returns
returns c =
    let fits : IsWord c.wrapping_div.result = search rules in
    bits_back c.wrapping_div.result fits ∙ quotient_is c.args.a c.args.b c.wrapping_div.result c.ranges.a c.ranges.b c.wrapping_div.ensures
