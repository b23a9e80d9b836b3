use Rattle.std.proofs.Common.{◌&&◌, not, Bool, ap, ◌∙◌}
use Rattle.class_set.specs.ClassSet.{holds}
use Rattle.net_board.specs.Nodes.{is_free}
use Rattle.net_tables.specs.PartsView.{net_in}
use Rattle.net_tables.proofs.TableLemmas.{touches_at}
use Rattle.net_tables.proofs.tables.passing_lines.Goals as goal

pub returns : goal.returns
returns g c = λ line below.
    let net = net_in c.args.plan.now in
    c.difference.ensures line
    ∙ ap (λ (b : Bool). b && not (holds c.at.result.now line)) (c.free_lines.ensures line below)
    ∙ ap (λ (b : Bool). is_free net c.args.piece line && not b) (touches_at c.args.plan.now.touch.now c.args.piece line c.at.result.now c.at.ensures.item)
