use Rattle.std.proofs.Common.{◌∙◌, ◌++◌, ap, sym, append-nil, arith}
use Rattle.std.proofs.lemmas.List.{take_all}
use Rattle.net_board.proofs.NodeLaws.{get_some}
use Rattle.op_board.specs.OperationNets.{operation_at}
use Rattle.op_net.specs.NetView.{net_of}
use Rattle.read_forks.specs.MadeSteps.{load_givers}
use Rattle.read_forks.proofs.MadeTables.{givers_more}
use Rattle.read_forks.proofs.new_steps.push_givers.Goals as goal

pub loop-j-init : goal.loop-j-init
loop-j-init g c = sym (append-nil c.args.givers.now.items)

pub loop-j-preserved : goal.loop-j-preserved
loop-j-preserved g c =
    let x = net_of c.args.net.now in
    let operands = (operation_at x c.args.piece c.args.i).operands in
    let low = c.loop-j-test.true in
    let end = c.loop-j.auto.j-end in
    let count = c.operand_count-j-end.ensures in
    let operand = get_some x.net operands c.loop-j.j (omega (arith, low, end, count)) in
    givers_more x c.args.piece operands c.loop-j.j operand.0 c.args.givers.now.items c.loop-j.givers.items c.push_giver.new.givers.items operand.1 c.loop-j.invariant (c.in_ok-push_giver.ensures operand.0 operand.1)

pub returns : goal.returns
returns g c =
    let x = net_of c.args.net.now in
    let over = c.loop-j-test.false in
    let end = c.loop-j.auto.j-end in
    let count = c.operand_count-j-end.ensures in
    c.loop-j.invariant ∙ ap (λ os. c.args.givers.now.items ++ load_givers x c.args.piece os) (take_all c.loop-j.j (operation_at x c.args.piece c.args.i).operands (omega (arith, over, end, count)))
