use Rattle.std.proofs.Common.{◌++◌, ◌∙◌, map, sym, ap, append-nil, arith}
use Rattle.std.proofs.lemmas.List.{take_all}
use Rattle.op_board.specs.OperationNets.{needed}
use Rattle.op_net.specs.NetView.{net_of}
use Rattle.read_forks.specs.MadeSteps.{new_link_of}
use Rattle.read_forks.proofs.MadeTables.{mapped_more}
use Rattle.read_forks.proofs.new_steps.push_links.Goals as goal

pub loop-j-init : goal.loop-j-init
loop-j-init g c = sym (append-nil c.args.links.now.items)

pub loop-j-preserved : goal.loop-j-preserved
loop-j-preserved g c = mapped_more (new_link_of c.args.k) c.args.links.now.items c.loop-j.links.items c.push.new.self.items (needed (net_of c.args.net.now) c.args.piece c.args.i) c.loop-j.j c.needed_line.result c.new_link.result c.needed_line.ensures c.new_link.ensures c.loop-j.invariant c.in_ok-push.ensures.items

pub returns : goal.returns
returns g c =
    let lines = needed (net_of c.args.net.now) c.args.piece c.args.i in
    let over = c.loop-j-test.false in
    let end = c.loop-j.auto.j-end in
    let count = c.needed_count-j-end.ensures in
    c.loop-j.invariant ∙ ap (λ ls. c.args.links.now.items ++ map (new_link_of c.args.k) ls) (take_all c.loop-j.j lines (omega (arith, over, end, count)))
