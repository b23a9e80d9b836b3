use Rattle.std.proofs.Common.{◌<◌, ◌≤◌, ◌+◌, arith}
use Rattle.read_forks.proofs.ClosingTurns.{all_closed, can_close, none_closed_yet, one_closed}
use Rattle.read_forks.proofs.waiting.Waiting.close_links.Goals as goal

pub loop-at-init : goal.loop-at-init
loop-at-init g c = none_closed_yet c.args.net.now c.args.self.now c.args.k c.args.step c.requires.step c.requires.name c.requires.sound c.requires.lines c.requires.open

pub close_link-requires : goal.close_link-requires
close_link-requires g c =
    let over = c.loop-at-test.true in
    let end = c.loop-at.auto.at-end in
    let below : c.loop-at.at < c.args.step.first + c.args.step.count = omega (arith, over, end) in
    (omega arith, can_close c.args.net.now c.args.self.now c.args.k c.args.step c.requires.step c.requires.name c.loop-at.at c.loop-at.net c.loop-at.self c.loop-at.invariant c.requires.node c.requires.ends c.requires.once below)

pub loop-at-preserved : goal.loop-at-preserved
loop-at-preserved g c =
    let over = c.loop-at-test.true in
    let end = c.loop-at.auto.at-end in
    let below : c.loop-at.at < c.args.step.first + c.args.step.count = omega (arith, over, end) in
    let did = c.close_link.ensures in
    one_closed c.args.net.now c.args.self.now c.args.k c.args.step c.requires.step c.requires.name c.loop-at.at c.loop-at.net c.loop-at.self c.loop-at.invariant below c.close_link.new.net c.close_link.new.self did.net
    (did.sound, (did.marking, (did.lines, did.opened))) did.closed did.steps did.apart did.place did.last

pub returns-clause-marking : goal.returns-clause-marking
returns-clause-marking g c =
    let over = c.loop-at-test.false in
    let end = c.loop-at.auto.at-end in
    let past : c.args.step.first + c.args.step.count ≤ c.loop-at.at = omega (arith, over, end) in
    (all_closed c.args.net.now c.args.self.now c.args.k c.args.step c.requires.step c.requires.name c.loop-at.at c.loop-at.net c.loop-at.self c.loop-at.invariant past).0

pub returns-clause-opened : goal.returns-clause-opened
returns-clause-opened g c =
    let over = c.loop-at-test.false in
    let end = c.loop-at.auto.at-end in
    let past : c.args.step.first + c.args.step.count ≤ c.loop-at.at = omega (arith, over, end) in
    (all_closed c.args.net.now c.args.self.now c.args.k c.args.step c.requires.step c.requires.name c.loop-at.at c.loop-at.net c.loop-at.self c.loop-at.invariant past).1
