use Rattle.std.proofs.Common.{◌≡◌, None, Some, sym, ◌∙◌, arith, rules}
use Rattle.op_net.specs.NetView.{marking_of as operations_on, net_of as net_in}
use Rattle.net_board.specs.Tokens.{edge_of}
use Rattle.read_forks.specs.KeptLoads.{opened_of}
use Rattle.read_forks.proofs.FollowedLines.{far_where_vanished, none_opened}
use Rattle.read_forks.proofs.waiting.Waiting.follow_line.Goals as goal

pub returns-in_default-clause-opened : goal.returns-in_default-clause-opened
returns-in_default-clause-opened g c =
    let x = net_in c.args.net.now in
    let m = operations_on c.args.net.now in
    let w = c.args.self.now in
    let none : c.edge_of.result ≡ None = search rules in
    none_opened x m c.args.line (opened_of x w) c.requires.none (far_where_vanished x m c.args.line (sym c.edge_of.ensures.edge ∙ none))

pub arrive_led-requires : goal.arrive_led-requires
arrive_led-requires g c =
    let m = operations_on c.args.net.now in
    let stands : edge_of m.tokens c.args.line ≡ Some c.in-Some.wire = sym c.edge_of.ensures.edge ∙ c.in-Some.is in (
      omega arith,
      (
        c.requires.is_net,
        (c.requires.line, (c.requires.apart, (c.requires.kept, (c.requires.none, (c.edge_of.ensures.exists c.in-Some.wire c.in-Some.is, (stands, (c.requires.passed, c.requires.edge))))))),
      ),
    )
