use Rattle.alias_classes.proofs.Rows.{access_of}
use Rattle.alias_classes.proofs.needs.access_fits.Goals as goal

pub returns : goal.returns
returns c = access_of c.args.names.now c.args.e.now c.args.a.now c.requires.expression c.requires.form
