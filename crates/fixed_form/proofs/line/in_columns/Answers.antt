use Rattle.std.proofs.Common.{arith}
use Rattle.fixed_form.proofs.Cards.{card-take}
use Rattle.fixed_form.proofs.line.in_columns.Goals as goal

pub returns-else-line-lt72-clause-card : goal.returns-else-line-lt72-clause-card
returns-else-line-lt72-clause-card c = card-take c.args.line.now (omega arith)
