-- the count's steps, which all fit in 64 bits
use Rattle.std.proofs.Common.{◌∙◌, w64, rules, FitsSigned}
use Rattle.op_table.proofs.Counts.{some_step, quotient_wide, count_is}
use Rattle.op_table.proofs.trips.do_count.Goals as goal

pub nonzero_div-trips : goal.nonzero_div-trips
nonzero_div-trips c =
    (some_step c.args.first c.args.last c.args.step c.from-2.result c.from.result c.from-step.result c.ranges.first c.ranges.last c.ranges.step c.from-2.ensures c.from.ensures c.from-step.ensures c.requires, quotient_wide c.args.first c.args.last c.args.step c.from-2.result c.from.result c.from-step.result c.ranges.first c.ranges.last c.ranges.step c.from-2.ensures c.from.ensures c.from-step.ensures)

pub returns : goal.returns
returns c =
    let fits : FitsSigned w64 c.max.result = search rules in
    c.unsigned_abs.ensures.value ∙ count_is c.args.first c.args.last c.args.step c.from-2.result c.from.result c.from-step.result c.ranges.first c.ranges.last c.ranges.step c.from-2.ensures c.from.ensures c.from-step.ensures c.max.result fits c.max.ensures.value
