use Rattle.std.proofs.Common.{Some, ap}
use Rattle.net_board.specs.Tokens.{led_from}
use Rattle.net_tables.specs.PartsView.{net_in}
use Rattle.net_tables.proofs.TableLemmas.{mapped_more}
use Rattle.net_tables.proofs.new_board.first_places.Goals as goal

pub loop-line-preserved : goal.loop-line-preserved
loop-line-preserved g c =
    let net = net_in c.args.plan.now in
    mapped_more (led_from net 1) c.loop-line.places.items c.push.new.self.items c.loop-line.line (Some c.next_wire.result) c.loop-line.invariant (ap (λ e. Some e) c.next_wire.ensures) c.in_ok-push.ensures.items
