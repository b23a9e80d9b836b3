use Rattle.std.proofs.Common.{◌≡◌, ◌<◌, ⊎_elim, ℕ, ◌∙◌, sym, arith}
use Rattle.firing.specs.declared.system.NodeName.TheVariants.{Merge, Switch}
use Rattle.net_tables.specs.LookupView.{net_on}
use Rattle.operation_places.proofs.PieceLines.{act_exists, merge_line, switch_line}
use Rattle.operation_places.proofs.piece_lines.lead_moved.Goals as goal

pub touched-requires : goal.touched-requires
touched-requires g c = (omega arith, act_exists (net_on c.args.board.now) c.args.k c.requires.node c.in-Act.piece (sym c.name.ensures ∙ c.in-Act.is))

pub lead_one-requires : goal.lead_one-requires
lead_one-requires g c =
    let net = net_on c.args.board.now in
    let line = c.in-Switch.line in
    let low : line < net.routing.lines =
    ⊎_elim
    (λ (w : (piece : ℕ) × (c.name.result ≡ Switch piece line)). switch_line net c.args.k c.requires.node w.0 line (sym c.name.ensures ∙ w.1))
    (λ (w : (piece : ℕ) × (c.name.result ≡ Merge piece line)). merge_line net c.args.k c.requires.node w.0 line (sym c.name.ensures ∙ w.1))
    c.in-Switch.is
    in
    (omega arith, (low, (c.requires.all, c.requires.edge)))
