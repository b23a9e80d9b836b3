use Rattle.std.proofs.Common.{arith}
use Rattle.op_net.specs.NetView.{net_of}
use Rattle.read_forks.proofs.LoadFlags.{all_flags, flags_more, no_flags}
use Rattle.read_forks.proofs.new_marks.load_flags.Goals as goal

pub loop-k-init : goal.loop-k-init
loop-k-init g c = no_flags (net_of c.args.net.now) c.in_ok-flags.flags.items c.in_ok-flags.ensures.items

pub loop-k-preserved : goal.loop-k-preserved
loop-k-preserved g c = flags_more (net_of c.args.net.now) c.loop-k.k c.loop-k.flags.items c.push.new.self.items c.is_load.result c.is_load.ensures c.loop-k.invariant c.in_ok-push.ensures.items

pub returns-clause-flags : goal.returns-clause-flags
returns-clause-flags g c =
    let over = c.loop-k-test.false in
    let end = c.loop-k.auto.k-end in
    let count = c.nodes.ensures in
    all_flags (net_of c.args.net.now) c.loop-k.k c.loop-k.flags.items (omega (arith, over, end, count)) c.loop-k.invariant

pub returns-clause-room : goal.returns-clause-room
returns-clause-room g c =
    let over = c.loop-k-test.false in
    let end = c.loop-k.auto.k-end in
    let count = c.nodes.ensures in
    let all = c.loop-k.invariant.all in
    omega (arith, over, end, count, all)
