use Rattle.round_charts.proofs.picture.picture_of.Goals as goal

pub returns-clause-inside : goal.returns-clause-inside
returns-clause-inside c = record {
  rulers = c.in_ok-rulers_of.ensures;
  bands = c.in_ok-bands_of.ensures;
  left = c.args.scale.left;
  wide = c.args.scale.cell;
  cells = c.in_ok-cells_of.ensures.inside;
  keys = c.in_ok-keys_on.ensures;
}
