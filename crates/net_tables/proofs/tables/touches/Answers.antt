use Rattle.std.proofs.Common.{◌∙◌}
use Rattle.net_tables.proofs.TableLemmas.{touches_at}
use Rattle.net_tables.proofs.tables.touches.Goals as goal

pub returns : goal.returns
returns g c = c.holds.ensures.member ∙ touches_at c.args.plan.now.touch.now c.args.piece c.args.line c.at.result.now c.at.ensures.item
