use Rattle.std.proofs.Common.{◌-◌, arith}
use Rattle.fixed_form.proofs.Cards.{get_or-card_inside, get_or-card_past}
use Rattle.fixed_form.proofs.line.character_in.Goals as goal

pub returns-then-n-columns : goal.returns-then-n-columns
returns-then-n-columns c =
    get_or-card_inside c.args.columns.now (c.args.n - 1) c.requires.short (omega arith)

pub returns-else-n-columns : goal.returns-else-n-columns
returns-else-n-columns c =
    get_or-card_past c.args.columns.now (c.args.n - 1) c.requires.short (omega arith) (omega arith)
