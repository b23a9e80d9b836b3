use Rattle.std.proofs.Common.{rules, ◌≡◌, zero, replicate, arith}
use Rattle.redundancy.proofs.Rounds.{solving-begin, solving-pop, popped_exists, solved}
use Rattle.redundancy.proofs.solve.missing_row.Goals as goal

pub loop-node-init : goal.loop-node-init
loop-node-init c =
    let zeros : c.in_ok-missing.missing.items ≡ replicate c.args.g.now.nodes zero = search rules in
    rw zeros (solving-begin c.args.g.now c.args.computes.now c.args.kills.now c.in_ok-waiting.waiting.items c.requires.flow c.in_ok-waiting.ensures)

pub spread-requires-clause-node : goal.spread-requires-clause-node
spread-requires-clause-node c = popped_exists c.args.g.now c.args.computes.now c.args.kills.now c.loop-node.missing.items c.loop-node.waiting.items c.pop.new.self.items c.in-Some.node c.in-Some.ensures.items c.loop-node.invariant

pub spread-requires-clause-solving : goal.spread-requires-clause-solving
spread-requires-clause-solving c = solving-pop c.args.g.now c.args.computes.now c.args.kills.now c.loop-node.missing.items c.loop-node.waiting.items c.pop.new.self.items c.in-Some.node c.in-Some.ensures.items c.loop-node.invariant

pub returns-clause-missing : goal.returns-clause-missing
returns-clause-missing c = solved c.args.g.now c.args.computes.now c.args.kills.now c.loop-node.missing.items c.loop-node.waiting.items (omega (arith, c.in_default.ensures.cases.0, c.loop-node.waiting.ok.0)) c.loop-node.invariant
