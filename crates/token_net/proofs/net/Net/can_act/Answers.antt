use Rattle.std.proofs.Common.{suc, ◌-◌}
use Rattle.std.specs.List.{range_with_len}
use Rattle.token_net.specs.NetView.{net_of, tokens_of}
use Rattle.token_net.proofs.ActLemmas.{ready_if, ready_unless, switches_are}
use Rattle.token_net.proofs.net.Net.can_act.Goals as goal

pub returns-then-are_before : goal.returns-then-are_before
returns-then-are_before g c = λ k.
    let net = net_of c.args.self.now in
    ready_if net (tokens_of c.args.self.now) c.args.piece k c.are_before.result c.is_clear.result c.touched-touched.result.now (range_with_len (suc c.first-first.result) (c.end-end.result - suc c.first-first.result)) c.touched-touched.ensures.lines (switches_are net c.args.piece c.first-first.result c.end-end.result c.requires.acts c.first-first.ensures c.end-end.ensures.end) c.are_before.ensures c.is_clear.ensures c.if-are_before.true

pub returns-else-are_before : goal.returns-else-are_before
returns-else-are_before g c = λ k.
    ready_unless (net_of c.args.self.now) (tokens_of c.args.self.now) c.args.piece k c.are_before.result c.touched-touched.result.now c.touched-touched.ensures.lines c.are_before.ensures c.if-are_before.false
