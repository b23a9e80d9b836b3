use Rattle.std.proofs.Common.{arith}
use Rattle.op_board.specs.OperationNets.{operation_node}
use Rattle.op_net.specs.NetView.{marking_of as operations_on, net_of as net_in}
use Rattle.read_forks.specs.KeptLoads.{opened_of}
use Rattle.read_forks.proofs.ArrivedLines.{IsTurned, turn_led, turn_opened}
use Rattle.read_forks.proofs.waiting.Waiting.follow_turn.Goals as goal

pub follow_line-requires : goal.follow_line-requires
follow_line-requires g c =
    let x = net_in c.args.net.now in
    let m = operations_on c.args.net.now in
    let line = c.turned_line-line.result in
    let turned : IsTurned x m (opened_of x c.args.self.now) line =
    turn_led x m (operation_node x c.args.k) line c.turned_line-line.ensures (opened_of x c.args.self.now) c.requires.turns c.requires.led in
    (omega arith, (c.requires.is_net, (turned.exists, (c.requires.apart, (c.requires.kept, (turned.none, (turned.passed, c.requires.edge)))))))

pub returns-clause-opened : goal.returns-clause-opened
returns-clause-opened g c =
    let x = net_in c.args.net.now in
    turn_opened x (operations_on c.args.net.now) (operation_node x c.args.k) c.turned_line-line.result c.turned_line-line.ensures (opened_of x c.args.self.now) (opened_of x c.follow_line.new.self) c.follow_line.ensures.opened
