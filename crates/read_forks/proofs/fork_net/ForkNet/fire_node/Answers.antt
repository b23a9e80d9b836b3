use Rattle.std.proofs.Common.{◌≡◌, Some, slice_get, sym, ◌∙◌, arith}
use Rattle.read_forks.proofs.TestedNets.{room_steps}
use Rattle.read_forks.proofs.fork_net.ForkNet.fire_node.Goals as goal

pub at-step-requires : goal.at-step-requires
at-step-requires g c =
    let long = room_steps c.args.self.now in
    let low = c.requires.node in
    omega (arith, long, low)

pub fire_load-requires : goal.fire_load-requires
fire_load-requires g c =
    let s = c.args.self.now in
    let k = c.args.k in
    let low = c.requires.node in
    let long = room_steps s in
    let step = c.at-step.result in
    let at : slice_get s.waiting.steps k ≡ Some step = c.at-step.ensures in
    (omega arith, (c.requires.node, (c.requires.ready, (c.requires.sound, (c.requires.going, (at, sym (s.kept.tables.steps.each k step at).loads ∙ c.if-step.true))))))

pub fire_other-requires : goal.fire_other-requires
fire_other-requires g c =
    let s = c.args.self.now in
    let k = c.args.k in
    let low = c.requires.node in
    let long = room_steps s in
    let step = c.at-step.result in
    let at : slice_get s.waiting.steps k ≡ Some step = c.at-step.ensures in
    (omega arith, (c.requires.node, (c.requires.ready, (c.requires.sound, (c.requires.going, (at, sym (s.kept.tables.steps.each k step at).loads ∙ c.if-step.false))))))
