use Rattle.std.proofs.Common.{rules, w32}
use mir.Val.{SFits}
use Rattle.range_lines.proofs.Wide.{code_is}
use Rattle.range_lines.proofs.shapes.number_at.Goals as goal

pub returns : goal.returns
returns c =
    let fits : SFits w32 c.args.shape.factor = search rules in
    code_is c.args.shape.factor c.args.v c.args.shape.constant fits c.ranges.v c.requires c.from.result c.from-2.result c.from.ensures c.from-2.ensures
