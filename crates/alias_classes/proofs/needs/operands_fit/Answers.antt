use Rattle.alias_classes.proofs.Rows.{operands_of}
use Rattle.alias_classes.proofs.needs.operands_fit.Goals as goal

pub returns : goal.returns
returns c = operands_of c.args.names.now c.args.e.now c.args.op c.args.args.now c.requires.expression c.requires.form
