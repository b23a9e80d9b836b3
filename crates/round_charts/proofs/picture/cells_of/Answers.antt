use Rattle.std.proofs.Common.{arith}
use Rattle.std.proofs.lemmas.Grind.{common_steps}
use Rattle.std.proofs.lemmas.List.Elements.{All-push}
use Rattle.round_charts.specs.Picture.{IsCellOn}
use Rattle.round_charts.proofs.picture.cells_of.Goals as goal

pub loop-cell-preserved : goal.loop-cell-preserved
loop-cell-preserved c = record {
  each = grind (arith, common_steps);
  inside = rw c.in_ok-push.ensures.items (All-push (IsCellOn c.args.scale.left c.args.scale.cell c.args.page) c.loop-cell.drawn.items c.drawn_cell.result c.loop-cell.invariant.inside c.drawn_cell.ensures.inside);
}
