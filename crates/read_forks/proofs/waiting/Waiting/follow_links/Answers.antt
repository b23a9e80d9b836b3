use Rattle.std.proofs.Common.{◌≡◌, ◌<◌, ◌≤◌, ℕ, ◌==◌, true, List, length, sym, subst, arith}
use Rattle.std.specs.List.{list_any}
use Rattle.closed_walks.specs.Graph.{edge_count}
use Rattle.net_board.specs.Nodes.{graph_in}
use Rattle.op_board.specs.OperationNets.{OperationNet, operation_node}
use Rattle.op_board.specs.SoundOperationNets.{IsOperationNet}
use Rattle.op_net.specs.NetView.{marking_of as operations_on, net_of as net_in}
use Rattle.read_forks.specs.KeptLoads.{AreOpened, opened_of}
use Rattle.read_forks.proofs.ArrivedLines.{all_linked, led_all, led_begins, lines_of, link_inside, link_led, link_other, next_led, step_lines}
use Rattle.read_forks.proofs.KeptNets.{apart_too, kept_there}
use Rattle.read_forks.proofs.waiting.Waiting.follow_links.Goals as goal

pub loop-j-init : goal.loop-j-init
loop-j-init g c =
    let x = net_in c.args.net.now in
    let name = operation_node x c.args.k in
    led_begins c.args.k c.args.self.now c.args.net.now c.requires.kept
    (λ line among. c.requires.led line (subst (λ (ls : List ℕ). list_any (λ (l : ℕ). l == line) ls ≡ true) (all_linked x name c.requires.operates) among))

pub follow-requires : goal.follow-requires
follow-requires g c =
    let inv = c.loop-j.invariant in
    let x = net_in c.args.net.now in
    let low = c.loop-j-test.true in (
      omega arith,
      (
        subst (λ (y : OperationNet). IsOperationNet y) (sym inv.rest.net) c.requires.is_net,
        (
          apart_too c.args.net.now c.loop-j.net inv.rest.net inv.rest.apart c.requires.apart,
          (
            kept_there x (net_in c.loop-j.net) (operations_on c.args.net.now) (operations_on c.loop-j.net) c.loop-j.self inv.rest.net inv.rest.marking inv.kept,
            (
              link_inside c.args.k c.loop-j.j c.args.step c.args.self.now c.loop-j.self c.args.net.now c.loop-j.net inv c.requires.step low,
              (
                subst (λ (y : OperationNet). c.args.edge < edge_count (graph_in y.net)) (sym inv.rest.net) c.requires.edge,
                (
                  link_other c.args.k c.loop-j.j c.args.step c.args.self.now c.loop-j.self c.args.net.now c.loop-j.net inv c.requires.step low c.requires.other,
                  link_led c.args.k c.loop-j.j c.args.step c.args.self.now c.loop-j.self c.args.net.now c.loop-j.net inv c.requires.step low,
                ),
              ),
            ),
          ),
        ),
      ),
    )

pub loop-j-preserved : goal.loop-j-preserved
loop-j-preserved g c =
    let inv = c.loop-j.invariant in
    let did = c.follow in
    next_led c.args.k c.loop-j.j c.args.step c.args.self.now c.loop-j.self c.args.net.now c.loop-j.net inv c.requires.step c.loop-j-test.true did.new.self did.new.net did.ensures.rest did.ensures.kept did.ensures.opened did.ensures.marks did.ensures.steps

pub returns-clause-rest : goal.returns-clause-rest
returns-clause-rest g c = c.loop-j.invariant.rest

pub returns-clause-kept : goal.returns-clause-kept
returns-clause-kept g c = c.loop-j.invariant.kept

pub returns-clause-opened : goal.returns-clause-opened
returns-clause-opened g c =
    let inv = c.loop-j.invariant in
    let over = c.loop-j-test.false in
    let count = step_lines c.args.k c.loop-j.j c.args.step c.args.self.now c.loop-j.self c.args.net.now c.loop-j.net inv c.requires.step in
    let all : length (lines_of c.args.net.now c.args.k) ≤ c.loop-j.j = omega (arith, over, count) in
    let x = net_in c.args.net.now in
    subst (λ (ls : List ℕ). AreOpened x (operations_on c.args.net.now) ls (opened_of x c.args.self.now) (opened_of x c.loop-j.self)) (all_linked x (operation_node x c.args.k) c.requires.operates)
    (led_all c.args.k c.loop-j.j c.args.self.now c.loop-j.self c.args.net.now c.loop-j.net all inv)

pub returns-clause-marks : goal.returns-clause-marks
returns-clause-marks g c = c.loop-j.invariant.marks

pub returns-clause-steps : goal.returns-clause-steps
returns-clause-steps g c = c.loop-j.invariant.steps
