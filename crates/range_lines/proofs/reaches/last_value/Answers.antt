use Rattle.range_lines.proofs.LastValues.{product_fits, sum_fits, cast_fits, cast_is}
use Rattle.range_lines.proofs.reaches.last_value.Goals as goal

pub overflow_mul-result : goal.overflow_mul-result
overflow_mul-result c = product_fits c.args.first c.args.last c.args.step c.args.count c.ranges.first c.ranges.last c.ranges.step c.requires.step c.requires.count c.requires.some c.from.result c.from-2.result c.from.ensures c.from-2.ensures

pub overflow_add-result : goal.overflow_add-result
overflow_add-result c = sum_fits c.args.first c.args.last c.args.step c.args.count c.ranges.first c.ranges.last c.ranges.step c.requires.step c.requires.count c.requires.some c.from.result c.from-2.result c.from.ensures c.from-2.ensures

pub overflow_cast-result-2 : goal.overflow_cast-result-2
overflow_cast-result-2 c = cast_fits c.args.first c.args.last c.args.step c.args.count c.ranges.first c.ranges.last c.ranges.step c.requires.step c.requires.count c.requires.some c.from.result c.from-2.result c.from.ensures c.from-2.ensures

pub returns : goal.returns
returns c = cast_is c.args.first c.args.last c.args.step c.args.count c.ranges.first c.ranges.last c.ranges.step c.requires.step c.requires.count c.requires.some c.from.result c.from-2.result c.from.ensures c.from-2.ensures
