use Rattle.std.proofs.Common.{arith}
use Rattle.op_net.proofs.NetFirings.{CanGoOn, can_fire_due, fired_within, one_fired}
use Rattle.op_net.proofs.net.OpNet.go_on.Goals as goal

pub fire_visited-requires : goal.fire_visited-requires
fire_visited-requires g c =
    let goes : CanGoOn c.args.self.now = record { is_sound = c.requires.sound; stays = c.requires.in_step; going = c.requires.going } in
    let can = can_fire_due c.args.self.now goes c.requires.here c.requires.due in
    (omega arith, (c.requires.visit, (c.requires.here, (c.requires.due, (can.node, (can.ready, (c.requires.sound.is_marking.tokens.memory, c.requires.going)))))))

pub returns-else-may_pass-clause-fired : goal.returns-else-may_pass-clause-fired
returns-else-may_pass-clause-fired g c =
    let goes : CanGoOn c.args.self.now = record { is_sound = c.requires.sound; stays = c.requires.in_step; going = c.requires.going } in
    let can = can_fire_due c.args.self.now goes c.requires.here c.requires.due in
    let did = c.fire_visited.ensures in
    fired_within c.args.most c.requires.some (one_fired c.requires.here c.requires.due can did.net did.marking did.place did.fired did.last)
