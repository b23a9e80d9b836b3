use Rattle.firing.proofs.RunLemmas.{makes_order, rest_settles, trap_traps}
use Rattle.firing.proofs.playing.play.Goals as goal

pub returns-clause-order : goal.returns-clause-order
returns-clause-order g c = makes_order (g.met.S.StepSystem.lawful (g.S.StepSystem.net c.args.sys.now)) c.requires.sound c.fire_chosen.ensures.plays

pub returns-clause-settles : goal.returns-clause-settles
returns-clause-settles g c = rest_settles (g.met.S.StepSystem.lawful (g.S.StepSystem.net c.args.sys.now)) c.requires.sound c.fire_chosen.ensures.plays

pub returns-clause-traps : goal.returns-clause-traps
returns-clause-traps g c = trap_traps (g.met.S.StepSystem.lawful (g.S.StepSystem.net c.args.sys.now)) c.requires.sound c.fire_chosen.ensures.plays
