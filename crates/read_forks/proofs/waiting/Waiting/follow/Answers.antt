use Rattle.std.proofs.Common.{◌≡◌, length, Some, None, slice_get, refl, sym, ◌∙◌, arith, rules}
use Rattle.std.proofs.lemmas.Option.{slice_get_read}
use Rattle.net_board.specs.Tokens.{edge_of}
use Rattle.op_board.specs.OperationNets.{operation_node}
use Rattle.op_board.specs.OperationTokens.{passed_by}
use Rattle.op_net.specs.NetView.{marking_of as operations_on, net_of as net_in}
use Rattle.read_forks.specs.KeptLoads.{opened_of}
use Rattle.read_forks.specs.LedLines.{IsLedOn}
use Rattle.read_forks.proofs.ArrivedLines.{one_link_opened}
use Rattle.read_forks.proofs.FollowedLines.{far_before_none, far_where_vanished, load_there, no_load_there, none_opened, passed_nothing}
use Rattle.read_forks.proofs.waiting.Waiting.follow.Goals as goal

pub edge_of-requires : goal.edge_of-requires
edge_of-requires g c =
    let x = net_in c.args.net.now in
    let m = operations_on c.args.net.now in
    let w = c.args.self.now in
    let link = c.index-link.result.now in
    let at : slice_get w.links.items c.args.at ≡ Some link = slice_get_read w.links.items (length w.links.items) c.args.at link refl c.requires.inside c.index-link.ensures in
    let led : IsLedOn x m (opened_of x w) (operation_node x link.node) link.line = c.requires.led link at in
    (omega arith, led.exists)

pub returns-in_default-clause-opened : goal.returns-in_default-clause-opened
returns-in_default-clause-opened g c =
    let x = net_in c.args.net.now in
    let m = operations_on c.args.net.now in
    let w = c.args.self.now in
    let link = c.index-link.result.now in
    let at : slice_get w.links.items c.args.at ≡ Some link = slice_get_read w.links.items (length w.links.items) c.args.at link refl c.requires.inside c.index-link.ensures in
    let led : IsLedOn x m (opened_of x w) (operation_node x link.node) link.line = c.requires.led link at in
    let none : c.edge_of.result ≡ None = search rules in
    one_link_opened x m w.links.items c.args.at link at (opened_of x w) (opened_of x w) (none_opened x m link.line (opened_of x w) led.none (far_where_vanished x m link.line (sym c.edge_of.ensures.edge ∙ none)))

pub open_group-requires : goal.open_group-requires
open_group-requires g c =
    let x = net_in c.args.net.now in
    let m = operations_on c.args.net.now in
    let w = c.args.self.now in
    let link = c.index-link.result.now in
    let at : slice_get w.links.items c.args.at ≡ Some link = slice_get_read w.links.items (length w.links.items) c.args.at link refl c.requires.inside c.index-link.ensures in
    let led : IsLedOn x m (opened_of x w) (operation_node x link.node) link.line = c.requires.led link at in
    let stands : edge_of m.tokens link.line ≡ Some c.in-Some.wire = sym c.edge_of.ensures.edge ∙ c.in-Some.is in (
      omega arith,
      (
        led.exists,
        (
          c.requires.is_net,
          (
            c.edge_of.ensures.exists c.in-Some.wire c.in-Some.is,
            (
              c.requires.apart,
              (
                c.requires.kept,
                (
                  led.none,
                  (
                    stands,
                    load_there x m w.links.items link.line c.in-Some.wire stands c.requires.kept.tables.ways c.args.at link at refl led.gone c.in-Here.next c.in-Here.is,
                  ),
                ),
              ),
            ),
          ),
        ),
      ),
    )

pub arrive_led-requires : goal.arrive_led-requires
arrive_led-requires g c =
    let x = net_in c.args.net.now in
    let m = operations_on c.args.net.now in
    let w = c.args.self.now in
    let link = c.index-link.result.now in
    let at : slice_get w.links.items c.args.at ≡ Some link = slice_get_read w.links.items (length w.links.items) c.args.at link refl c.requires.inside c.index-link.ensures in
    let led : IsLedOn x m (opened_of x w) (operation_node x link.node) link.line = c.requires.led link at in
    let stands : edge_of m.tokens link.line ≡ Some c.in-Some.wire = sym c.edge_of.ensures.edge ∙ c.in-Some.is in
    let passed : passed_by m link.line ≡ 0 = passed_nothing x m w.links.items link.line c.in-Some.wire stands c.requires.kept.tables.ways c.args.at link at refl led.gone c.in_default-way.not-Here c.in_default-way.not-Before in (
      omega arith,
      (
        c.requires.is_net,
        (led.exists, (c.requires.apart, (c.requires.kept, (led.none, (c.edge_of.ensures.exists c.in-Some.wire c.in-Some.is, (stands, (passed, c.requires.edge))))))),
      ),
    )

pub returns-in-Here-clause-opened : goal.returns-in-Here-clause-opened
returns-in-Here-clause-opened g c =
    let x = net_in c.args.net.now in
    let m = operations_on c.args.net.now in
    let w = c.args.self.now in
    let link = c.index-link.result.now in
    let at : slice_get w.links.items c.args.at ≡ Some link = slice_get_read w.links.items (length w.links.items) c.args.at link refl c.requires.inside c.index-link.ensures in
    let led : IsLedOn x m (opened_of x w) (operation_node x link.node) link.line = c.requires.led link at in
    one_link_opened x m w.links.items c.args.at link at (opened_of x w) (opened_of x c.open_group.new.self) c.open_group.ensures.opened

pub returns-in-Before-clause-opened : goal.returns-in-Before-clause-opened
returns-in-Before-clause-opened g c =
    let x = net_in c.args.net.now in
    let m = operations_on c.args.net.now in
    let w = c.args.self.now in
    let link = c.index-link.result.now in
    let at : slice_get w.links.items c.args.at ≡ Some link = slice_get_read w.links.items (length w.links.items) c.args.at link refl c.requires.inside c.index-link.ensures in
    let led : IsLedOn x m (opened_of x w) (operation_node x link.node) link.line = c.requires.led link at in
    let stands : edge_of m.tokens link.line ≡ Some c.in-Some.wire = sym c.edge_of.ensures.edge ∙ c.in-Some.is in
    let none = no_load_there x m w.links.items link.line c.in-Some.wire stands c.requires.kept.tables.ways c.args.at link at refl led.gone c.in-Before.field-0 c.in-Before.is in
    one_link_opened x m w.links.items c.args.at link at (opened_of x w) (opened_of x w) (none_opened x m link.line (opened_of x w) led.none (far_before_none x m link.line c.in-Some.wire stands none))

pub returns-in_default-way-clause-opened : goal.returns-in_default-way-clause-opened
returns-in_default-way-clause-opened g c =
    let x = net_in c.args.net.now in
    let m = operations_on c.args.net.now in
    let w = c.args.self.now in
    let link = c.index-link.result.now in
    let at : slice_get w.links.items c.args.at ≡ Some link = slice_get_read w.links.items (length w.links.items) c.args.at link refl c.requires.inside c.index-link.ensures in
    let led : IsLedOn x m (opened_of x w) (operation_node x link.node) link.line = c.requires.led link at in
    one_link_opened x m w.links.items c.args.at link at (opened_of x w) (opened_of x c.arrive_led.new.self) c.arrive_led.ensures.opened
