use Rattle.std.proofs.Common.{◌*◌, ap, arith}
use Rattle.round_charts.proofs.picture.drawn_cell.Goals as goal

pub returns-clause-inside : goal.returns-clause-inside
returns-clause-inside c = (omega (arith, ap (λ n. n * c.args.scale.cell) c.requires), c.rectangle.ensures.inside)
