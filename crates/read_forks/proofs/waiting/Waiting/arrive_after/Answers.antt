use Rattle.std.proofs.Common.{sym, ◌∙◌, arith}
use Rattle.read_forks.proofs.waiting.Waiting.arrive_after.Goals as goal

pub follow_turn-requires : goal.follow_turn-requires
follow_turn-requires g c =
    let turns = (c.requires.kept.tables.steps.each c.args.k c.args.step c.requires.step).turns in
    (omega arith, (c.requires.is_net, (c.requires.apart, (c.requires.kept, (c.requires.node, (sym turns ∙ c.if-step.true, (c.requires.edge, c.requires.led)))))))

pub follow_links-requires : goal.follow_links-requires
follow_links-requires g c =
    let turns = (c.requires.kept.tables.steps.each c.args.k c.args.step c.requires.step).turns in (
      omega arith,
      (
        c.requires.is_net,
        (c.requires.apart, (c.requires.kept, (c.requires.node, (c.requires.step, (c.requires.other, (sym turns ∙ c.if-step.false, (c.requires.edge, c.requires.led))))))),
      ),
    )
