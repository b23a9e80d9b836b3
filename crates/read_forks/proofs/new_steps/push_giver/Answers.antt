use Rattle.std.proofs.Common.{◌<◌, ◌∙◌, Some, ap, arith}
use Rattle.op_board.specs.OperationNets.{operation_at, operation_count}
use Rattle.op_board.proofs.OperationNumbers.{operation_number}
use Rattle.op_net.specs.NetView.{net_of}
use Rattle.read_forks.proofs.MadeTables.{giver_of_one, no_giver_of_one, told_of}
use Rattle.read_forks.proofs.TestedLoads.{giver_below}
use Rattle.read_forks.proofs.new_steps.push_giver.Goals as goal

pub operation_node-requires : goal.operation_node-requires
operation_node-requires g c =
    let x = net_of c.args.net.now in
    let inside : c.in-Some.number < operation_count x c.args.piece = giver_below x c.args.piece c.args.i c.requires.piece c.requires.operation c.args.j c.in-Some.number (c.operand_giver.ensures ∙ ap (λ o. Some o) c.in-Some.is) in
    (omega arith, (c.requires.piece, inside))

pub push_load-requires : goal.push_load-requires
push_load-requires g c =
    let low = c.operation_node.ensures.exists in
    let room = c.requires.room in
    omega (arith, low, room)

pub returns-in_ok-push_load-in-Some : goal.returns-in_ok-push_load-in-Some
returns-in_ok-push_load-in-Some g c =
    let x = net_of c.args.net.now in
    let k = c.operation_node.result in
    λ operand at. giver_of_one x c.args.piece operand c.in-Some.number k c.args.loads.now.items c.args.givers.now.items c.push_load.new.givers.items (told_of x c.args.piece (operation_at x c.args.piece c.args.i).operands c.args.j operand (Some c.in-Some.number) at (c.operand_giver.ensures ∙ ap (λ o. Some o) c.in-Some.is))
    (operation_number x k c.args.piece c.in-Some.number c.operation_node.ensures.exists c.operation_node.ensures.name) (c.requires.flags k c.operation_node.ensures.exists) c.in_ok-push_load-in-Some.ensures

pub returns-in-None : goal.returns-in-None
returns-in-None g c =
    let x = net_of c.args.net.now in
    λ operand at. no_giver_of_one x c.args.piece operand c.args.givers.now.items (told_of x c.args.piece (operation_at x c.args.piece c.args.i).operands c.args.j operand _ at (c.operand_giver.ensures ∙ ap (λ o. Some o) c.in-None.is))
