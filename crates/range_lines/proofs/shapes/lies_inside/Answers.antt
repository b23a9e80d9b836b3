use Rattle.std.proofs.Common.{rules, ap, ◌∙◌, w32, w64}
use mir.Val.{SFits}
use Rattle.std.proofs.lemmas.Int.{to_z-of_z}
use Rattle.range_lines.proofs.Wide.{upper_tested, lower_failed}
use Rattle.range_lines.specs.Shapes.{shape_at}
use Rattle.range_lines.proofs.shapes.lies_inside.Goals as goal

pub returns-then-from-z : goal.returns-then-from-z
returns-then-from-z c =
    let low : SFits w32 c.args.dim.lo = search rules in
    let high : SFits w32 c.args.dim.hi = search rules in
    let fits : SFits w64 c.number_at-z.result = search rules in
    upper_tested c.args.dim (shape_at c.args.shape c.args.v) c.from.result c.number_at-z.result low fits (c.number_at-z.ensures ∙ ap (shape_at c.args.shape) (to_z-of_z w32 c.args.v c.ranges.v)) c.from.ensures c.from-then-from-z.result high c.from-then-from-z.ensures c.if-from-z.true

pub returns-else-from-z : goal.returns-else-from-z
returns-else-from-z c =
    let low : SFits w32 c.args.dim.lo = search rules in
    let fits : SFits w64 c.number_at-z.result = search rules in
    lower_failed c.args.dim (shape_at c.args.shape c.args.v) c.from.result c.number_at-z.result low fits (c.number_at-z.ensures ∙ ap (shape_at c.args.shape) (to_z-of_z w32 c.args.v c.ranges.v)) c.from.ensures c.if-from-z.false
