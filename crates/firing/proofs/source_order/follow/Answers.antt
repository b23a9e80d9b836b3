use Rattle.std.proofs.Common.{subst}
use Rattle.firing.specs.Play.{Plays, by_order, moment}
use Rattle.firing.proofs.ControlLemmas.{lost_control}
use Rattle.firing.proofs.OwnLemmas.{lowest_due, not_limit}
use Rattle.firing.proofs.RunLemmas.{makes_order, rest_settles, trap_traps}
use Rattle.firing.proofs.source_order.follow.Goals as goal
use Rattle.std.proofs.Common.{arith}

pub returns-then-has_control-clause-order : goal.returns-then-has_control-clause-order
returns-then-has_control-clause-order g c = makes_order (g.met.S.StepSystem.lawful (g.S.StepSystem.net c.args.sys.now)) c.requires.sound c.fire_in_order.ensures.plays

pub returns-then-has_control-clause-settles : goal.returns-then-has_control-clause-settles
returns-then-has_control-clause-settles g c = rest_settles (g.met.S.StepSystem.lawful (g.S.StepSystem.net c.args.sys.now)) c.requires.sound c.fire_in_order.ensures.plays

pub returns-then-has_control-clause-traps : goal.returns-then-has_control-clause-traps
returns-then-has_control-clause-traps g c = trap_traps (g.met.S.StepSystem.lawful (g.S.StepSystem.net c.args.sys.now)) c.requires.sound c.fire_in_order.ensures.plays

pub returns-then-has_control-clause-enough : goal.returns-then-has_control-clause-enough
returns-then-has_control-clause-enough g c p ks at order over le is =
    let y = g.S.StepSystem in
    let net = y.net c.args.sys.now in
    let w = by_order (y.moves net) (y.course net) in
    let start = moment (y.marking c.args.sys.now) (y.place c.args.sys.now) in
    let end = moment (y.marking c.fire_in_order.new.sys) (y.place c.fire_in_order.new.sys) in
    let plays = subst (Plays w start c.args.limit c.args.show end (g.K.Sink.got c.args.sink.now) (g.K.Sink.got c.fire_in_order.new.sink)) is c.fire_in_order.ensures.plays in
    not_limit (y.moves net) (y.course net) (y.marking c.args.sys.now) (y.place c.args.sys.now) p ks at order over c.args.limit le plays

pub returns-else-has_control-clause-plays : goal.returns-else-has_control-clause-plays
returns-else-has_control-clause-plays g c = grind (arith, lost_control, lowest_due)
