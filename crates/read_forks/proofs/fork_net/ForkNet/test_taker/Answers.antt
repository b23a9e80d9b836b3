use Rattle.std.proofs.Common.{◌≡◌, ◌<◌, ℕ, length, Some, slice_get, refl, sym, subst, arith}
use Rattle.firing.specs.ReadySet.{has}
use Rattle.op_board.specs.OperationNets.{operation_node}
use Rattle.op_net.specs.ApartLoads.{flags_of}
use Rattle.operation_tables.specs.Waits.{node_total}
use Rattle.op_net.specs.NetView.{marking_of as operations_on, net_of as net_in}
use Rattle.read_forks.specs.ForkView.{net_of}
use Rattle.read_forks.specs.WaitingLoads.{waits_for_nothing}
use Rattle.read_forks.proofs.KeptNets.{apart_too, kept_there}
use Rattle.read_forks.proofs.TestedLoads.{only_taker}
use Rattle.read_forks.proofs.TestedNets.{can_test, room_steps}
use Rattle.read_forks.proofs.WaitTests.{right_here, test_keeps}
use Rattle.read_forks.proofs.fork_net.ForkNet.test_taker.Goals as goal

pub test-requires : goal.test-requires
test-requires g c =
    let s = c.args.self.now in
    let x = net_of s in
    let m = operations_on s.net in
    let closed = s.waiting.closed.items in
    let taker = c.args.step.taker in
    let less = c.if-step-nodes.true in
    let nodes = c.nodes.ensures in
    let exists : taker < node_total x = omega (arith, less, nodes) in
    let loads = s.kept.tables.values.takers c.args.k c.args.step c.requires.step exists in
    let long = room_steps s in
    let step = c.at.result in
    let at : slice_get s.waiting.steps taker ≡ Some step = c.at.ensures in
    (omega arith, can_test s s.net refl refl refl refl taker step exists at loads)

pub invariant_of-self : goal.invariant_of-self
invariant_of-self g c =
    let s = c.args.self.now in
    let rest = c.test.ensures.kept in
    let now = c.test.new.net in
    record {
      apart = apart_too s.net now rest.net rest.apart s.apart;
      kept = kept_there (net_of s) (net_in now) (operations_on s.net) (operations_on now) s.waiting rest.net rest.marking s.kept;
    }

pub returns-then-step-nodes-clause-marks : goal.returns-then-step-nodes-clause-marks
returns-then-step-nodes-clause-marks g c =
    let s = c.args.self.now in
    test_keeps (net_of s) (operations_on s.net) s.waiting.closed.items (flags_of s.net) (flags_of c.test.new.net) c.args.step.taker c.test.ensures.flags

pub returns-then-step-nodes-clause-right : goal.returns-then-step-nodes-clause-right
returns-then-step-nodes-clause-right g c = λ j low inside loads takes.
    let s = c.args.self.now in
    let x = net_of s in
    let m = operations_on s.net in
    let closed = s.waiting.closed.items in
    let taker = c.args.step.taker in
    let e : j ≡ taker = only_taker x c.args.k j taker (operation_node x j) (s.kept.tables.values.taker c.args.k c.args.step c.requires.step j low loads) takes in
    subst (λ (n : ℕ). has (flags_of c.test.new.net) n ≡ waits_for_nothing x m closed n) (sym e)
    (right_here x m closed (flags_of s.net) (flags_of c.test.new.net) taker c.test.ensures.flags (subst (λ (n : ℕ). n < length (flags_of s.net)) e inside))

pub returns-else-step-nodes-clause-right : goal.returns-else-step-nodes-clause-right
returns-else-step-nodes-clause-right g c = λ j low inside loads takes.
    let s = c.args.self.now in
    let x = net_of s in
    let taker = c.args.step.taker in
    let e : j ≡ taker = only_taker x c.args.k j taker (operation_node x j) (s.kept.tables.values.taker c.args.k c.args.step c.requires.step j low loads) takes in
    let more = c.if-step-nodes.false in
    let nodes = c.nodes.ensures in
    absurd (omega (arith, low, e, more, nodes))
