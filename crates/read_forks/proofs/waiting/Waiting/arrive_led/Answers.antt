use Rattle.std.proofs.Common.{◌<◌, ℕ, Some, sym, ap, ◌∙◌, subst, arith}
use Rattle.closed_walks.specs.Graph.{edge_count}
use Rattle.net_board.specs.Nodes.{graph_in}
use Rattle.net_board.specs.Tokens.{edge_of}
use Rattle.op_board.specs.OperationNets.{OperationNet}
use Rattle.op_board.specs.OperationTokens.{OperationTokens, passed_by}
use Rattle.op_board.specs.SoundOperationNets.{IsOperationNet}
use Rattle.op_net.specs.NetView.{marking_of as operations_on, net_of as net_in}
use Rattle.operation_tables.specs.Waits.{IsNodeBefore}
use Rattle.read_forks.specs.KeptLoads.{IsOpenForNone, opened_of}
use Rattle.read_forks.proofs.ArrivedLines.{IsArrived, led_arrived}
use Rattle.read_forks.proofs.KeptNets.{apart_too, kept_there}
use Rattle.read_forks.proofs.waiting.Waiting.arrive_led.Goals as goal

pub arrive-requires : goal.arrive-requires
arrive-requires g c =
    let x = net_in c.args.net.now in
    let m = operations_on c.args.net.now in
    let w = c.args.self.now in
    let line = c.args.line in
    let wire = c.args.wire in
    let turn = c.node_led_to-to in
    let rest = turn.ensures.rest in (
      omega arith,
      (
        subst (λ (y : OperationNet). line < y.net.routing.lines) (sym rest.net) c.requires.line,
        (
          subst (λ (y : OperationNet). IsOperationNet y) (sym rest.net) c.requires.is_net,
          (
            subst (λ (y : OperationNet). wire < edge_count (graph_in y.net)) (sym rest.net) c.requires.wire,
            (
              apart_too c.args.net.now turn.new.net rest.net rest.apart c.requires.apart,
              (
                kept_there x (net_in turn.new.net) m (operations_on turn.new.net) w rest.net rest.marking c.requires.kept,
                (
                  subst (λ (y : OperationNet). IsOpenForNone (opened_of y w) line) (sym rest.net) c.requires.none,
                  (
                    ap (λ (t : OperationTokens). edge_of t.tokens line) rest.marking ∙ c.requires.stands,
                    subst (λ (t : OperationTokens). IsNodeBefore (net_in turn.new.net) line (Some wire) (passed_by t line) turn.result) (sym rest.marking)
                        (subst (λ (y : OperationNet). IsNodeBefore y line (Some wire) (passed_by m line) turn.result) (sym rest.net)
                        (subst (λ (n : ℕ). IsNodeBefore x line (Some wire) n turn.result) (sym c.requires.passed) turn.ensures.before)),
                  ),
                ),
              ),
            ),
          ),
        ),
      ),
    )

pub returns : goal.returns
returns g c =
    let turn = c.node_led_to-to in
    let did = c.arrive in
    let all : IsArrived c.args.line c.args.self.now did.new.self c.args.net.now did.new.net =
    led_arrived c.args.net.now turn.new.net did.new.net c.args.self.now did.new.self c.args.line turn.ensures.rest turn.ensures.kept c.requires.apart did.ensures.rest did.ensures.kept did.ensures.opened did.ensures.marks did.ensures.steps in
    record { rest = all.rest; kept = all.kept; opened = all.opened; marks = all.marks; steps = all.steps }
