use Rattle.std.proofs.Common.{sym, ◌∙◌}
use Rattle.net_board.specs.Tokens.{led_from}
use Rattle.net_tables.specs.PartsView.{net_in}
use Rattle.net_tables.proofs.TokenLineLemmas.{leads_stand, places_end}
use Rattle.net_tables.proofs.token_lines.lead.Goals as goal

pub returns-clause-stand : goal.returns-clause-stand
returns-clause-stand g c =
    leads_stand c.args.plan.now c.args.edge c.args.touched.now c.args.lines.now.items c.loop-line.lines.items c.requires.touched c.requires.edge
    (sym (places_end c.args.touched.now c.loop-line.lines.items (led_from (net_in c.args.plan.now) c.args.edge) c.loop-line.line-index c.loop-line-test.false) ∙ c.loop-line.invariant.lines)
