use Rattle.std.proofs.Common.{◌<◌, ◌^◌, arith}
use Rattle.op_net.specs.NetView.{net_of}
use Rattle.operation_tables.specs.Waits.{node_total}
use Rattle.read_forks.proofs.MadeTables.{turn_more}
use Rattle.read_forks.proofs.new_steps.push_turn.Goals as goal

pub returns : goal.returns
returns g c =
    let x = net_of c.args.net.now in
    let t = c.args.tables.now in
    let count = c.nodes-nodes.ensures in
    let few : node_total x < 2 ^ 32 = omega (arith, count) in
    turn_more x c.args.k t.steps t.links.items t.givers.items c.requires.made c.requires.turns c.push_turn.new.self c.in_ok-push_turn.ensures few
