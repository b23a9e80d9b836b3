use Rattle.alias_classes.proofs.OneNumbering.{one-table}
use Rattle.alias_classes.proofs.laws.one_numbering.Goals as goal

pub returns : goal.returns
returns c = one-table
