use Rattle.std.proofs.Common.{List, ◌≡◌, ◌<◌, false, slice_get, Some, sym, ◌∙◌, subst, arith}
use Rattle.closed_walks.specs.Graph.{edge_count}
use Rattle.firing.specs.Moves.{CanFire}
use Rattle.net_board.specs.Nodes.{graph_in}
use Rattle.op_board.specs.OperationNets.{OperationNet, operation_node}
use Rattle.op_board.specs.OperationTokens.{operation_moves}
use Rattle.op_board.specs.SoundOperationNets.{IsOperationNet}
use Rattle.op_net.specs.ApartLoads.{KeepsApart}
use Rattle.op_net.specs.NetView.{marking_of as operations_on, net_of as net_in}
use Rattle.operation_tables.specs.Waits.{node_total}
use Rattle.fork_board.specs.ForkTokens.{fork_moves, is_load_node}
use Rattle.read_forks.specs.ForkView.{marking_of, net_of}
use Rattle.read_forks.specs.WaitingLoads.{IsRemarked}
use Rattle.read_forks.specs.declared.steps.Step.{Step}
use Rattle.read_forks.specs.declared.waiting.Waiting.{Waiting}
use Rattle.read_forks.proofs.ForkCourses.{place_told}
use Rattle.read_forks.proofs.KeptNets.{kept_apart, remarked_twice}
use Rattle.read_forks.proofs.LoadNodes.{other_answer}
use Rattle.read_forks.proofs.OtherNets.{apart_led, apart_opened, kept_led, kept_opened, lines_led, marking_end, net_end, net_opened, ready_other, set_kept}
use Rattle.read_forks.proofs.fork_net.ForkNet.fire_other.Goals as goal

pub fire_node-fired-requires : goal.fire_node-fired-requires
fire_node-fired-requires g c =
    let s = c.args.self.now in
    let can : CanFire (fork_moves (net_of s)) (marking_of s) c.args.k = record { going = c.requires.going; node = c.requires.node; ready = c.requires.ready } in
    (omega arith, (c.requires.node, (ready_other s c.args.k c.requires.sound can c.requires.loads, (c.requires.sound.is_marking.tokens.memory, c.requires.going))))

pub steer-requires : goal.steer-requires
steer-requires g c =
    let did = c.fire_node-fired in
    (omega arith, subst (λ (y : OperationNet). did.result.1 < edge_count (graph_in y.net)) (sym did.ensures.net) did.ensures.edge)

pub arrive_after-requires : goal.arrive_after-requires
arrive_after-requires g c =
    let s = c.args.self.now in
    let k = c.args.k in
    let did = c.fire_node-fired in
    let led = c.steer.new.self in
    let can : CanFire (fork_moves (net_of s)) (marking_of s) k = record { going = c.requires.going; node = c.requires.node; ready = c.requires.ready } in
    let net : net_in led ≡ net_of s = c.steer.ensures.net ∙ did.ensures.net in
    let marking : operations_on led ≡ (operation_moves (net_of s)).fired (operations_on s.net) k = c.steer.ensures.marking ∙ did.ensures.marking in
    let kept : KeepsApart s.net led = kept_apart s.net did.new.self led did.ensures.kept c.steer.ensures.kept in (
      omega arith,
      (
        subst (λ (y : OperationNet). IsOperationNet y) (sym net) c.requires.sound.is_net,
        (
          apart_led s k c.requires.sound can c.requires.loads led net marking kept,
          (
            kept_led s k c.requires.sound can c.requires.loads led net marking kept,
            (
              subst (λ (y : OperationNet). k < node_total y) (sym net) c.requires.node,
              (
                c.requires.step,
                (
                  subst (λ (y : OperationNet). is_load_node y (operation_node y k) ≡ false) (sym net) c.requires.loads,
                  (
                    subst (λ (y : OperationNet). did.result.1 < edge_count (graph_in y.net)) (sym net) did.ensures.edge,
                    lines_led s k c.requires.sound can c.requires.loads led net marking kept,
                  ),
                ),
              ),
            ),
          ),
        ),
      ),
    )

pub invariant_of-self : goal.invariant_of-self
invariant_of-self g c =
    let s = c.args.self.now in
    let k = c.args.k in
    let did = c.fire_node-fired in
    let led = c.steer.new.self in
    let can : CanFire (fork_moves (net_of s)) (marking_of s) k = record { going = c.requires.going; node = c.requires.node; ready = c.requires.ready } in
    let net : net_in led ≡ net_of s = c.steer.ensures.net ∙ did.ensures.net in
    let marking : operations_on led ≡ (operation_moves (net_of s)).fired (operations_on s.net) k = c.steer.ensures.marking ∙ did.ensures.marking in
    let kept : KeepsApart s.net led = kept_apart s.net did.new.self led did.ensures.kept c.steer.ensures.kept in
    let arrived = c.arrive_after in
    let w = arrived.new.self in
    let rest = arrived.ensures.rest in
    record {
      apart = apart_opened s k c.requires.sound can c.requires.loads led net marking kept w arrived.new.net rest arrived.ensures.kept;
      kept = kept_opened s k c.requires.sound can c.requires.loads led net marking kept w arrived.new.net rest arrived.ensures.kept;
    }

pub test_givers-requires : goal.test_givers-requires
test_givers-requires g c =
    let s = c.args.self.now in
    let k = c.args.k in
    let did = c.fire_node-fired in
    let led = c.steer.new.self in
    let can : CanFire (fork_moves (net_of s)) (marking_of s) k = record { going = c.requires.going; node = c.requires.node; ready = c.requires.ready } in
    let net : net_in led ≡ net_of s = c.steer.ensures.net ∙ did.ensures.net in
    let marking : operations_on led ≡ (operation_moves (net_of s)).fired (operations_on s.net) k = c.steer.ensures.marking ∙ did.ensures.marking in
    let kept : KeepsApart s.net led = kept_apart s.net did.new.self led did.ensures.kept c.steer.ensures.kept in
    let arrived = c.arrive_after in
    let w = arrived.new.self in
    let rest = arrived.ensures.rest in (
      omega arith,
      (
        subst (λ (y : OperationNet). k < node_total y) (sym (net_opened s k c.requires.sound can c.requires.loads led net marking kept w arrived.new.net rest arrived.ensures.kept)) c.requires.node,
        subst (λ (v : List Step). slice_get v k ≡ Some c.args.step) (sym arrived.ensures.steps) c.requires.step,
      ),
    )

pub test_taker-requires : goal.test_taker-requires
test_taker-requires g c =
    let s = c.args.self.now in
    let k = c.args.k in
    let did = c.fire_node-fired in
    let led = c.steer.new.self in
    let can : CanFire (fork_moves (net_of s)) (marking_of s) k = record { going = c.requires.going; node = c.requires.node; ready = c.requires.ready } in
    let net : net_in led ≡ net_of s = c.steer.ensures.net ∙ did.ensures.net in
    let marking : operations_on led ≡ (operation_moves (net_of s)).fired (operations_on s.net) k = c.steer.ensures.marking ∙ did.ensures.marking in
    let kept : KeepsApart s.net led = kept_apart s.net did.new.self led did.ensures.kept c.steer.ensures.kept in
    let arrived = c.arrive_after in
    let w = arrived.new.self in
    let rest = arrived.ensures.rest in
    let given = c.test_givers in (
      omega arith,
      (
        subst (λ (y : OperationNet). k < node_total y) (sym (given.ensures.rest.net ∙ net_opened s k c.requires.sound can c.requires.loads led net marking kept w arrived.new.net rest arrived.ensures.kept)) c.requires.node,
        subst (λ (u : Waiting). slice_get u.steps k ≡ Some c.args.step) (sym given.ensures.waiting) (subst (λ (v : List Step). slice_get v k ≡ Some c.args.step) (sym arrived.ensures.steps) c.requires.step),
      ),
    )

pub returns-clause-net : goal.returns-clause-net
returns-clause-net g c =
    let s = c.args.self.now in
    let k = c.args.k in
    let did = c.fire_node-fired in
    let led = c.steer.new.self in
    let can : CanFire (fork_moves (net_of s)) (marking_of s) k = record { going = c.requires.going; node = c.requires.node; ready = c.requires.ready } in
    let net : net_in led ≡ net_of s = c.steer.ensures.net ∙ did.ensures.net in
    let marking : operations_on led ≡ (operation_moves (net_of s)).fired (operations_on s.net) k = c.steer.ensures.marking ∙ did.ensures.marking in
    let kept : KeepsApart s.net led = kept_apart s.net did.new.self led did.ensures.kept c.steer.ensures.kept in
    let arrived = c.arrive_after in
    let w = arrived.new.self in
    let rest = arrived.ensures.rest in
    let given = c.test_givers in
    let taken = c.test_taker in
    let again : IsRemarked arrived.new.net taken.new.self.net = remarked_twice arrived.new.net given.new.self.net taken.new.self.net given.ensures.rest taken.ensures.rest in
    let waiting : taken.new.self.waiting ≡ w = taken.ensures.waiting ∙ given.ensures.waiting in
    net_end s k c.requires.sound can c.requires.loads led net marking kept w arrived.new.net rest arrived.ensures.kept taken.new.self again waiting

pub returns-clause-marking : goal.returns-clause-marking
returns-clause-marking g c =
    let s = c.args.self.now in
    let k = c.args.k in
    let did = c.fire_node-fired in
    let led = c.steer.new.self in
    let can : CanFire (fork_moves (net_of s)) (marking_of s) k = record { going = c.requires.going; node = c.requires.node; ready = c.requires.ready } in
    let net : net_in led ≡ net_of s = c.steer.ensures.net ∙ did.ensures.net in
    let marking : operations_on led ≡ (operation_moves (net_of s)).fired (operations_on s.net) k = c.steer.ensures.marking ∙ did.ensures.marking in
    let kept : KeepsApart s.net led = kept_apart s.net did.new.self led did.ensures.kept c.steer.ensures.kept in
    let arrived = c.arrive_after in
    let w = arrived.new.self in
    let rest = arrived.ensures.rest in
    let given = c.test_givers in
    let taken = c.test_taker in
    let again : IsRemarked arrived.new.net taken.new.self.net = remarked_twice arrived.new.net given.new.self.net taken.new.self.net given.ensures.rest taken.ensures.rest in
    let waiting : taken.new.self.waiting ≡ w = taken.ensures.waiting ∙ given.ensures.waiting in
    marking_end s k c.requires.sound can c.requires.loads led net marking kept w arrived.new.net rest arrived.ensures.kept taken.new.self again waiting arrived.ensures.opened

pub returns-clause-place : goal.returns-clause-place
returns-clause-place g c =
    let did = c.fire_node-fired in
    c.test_taker.ensures.rest.place ∙ c.test_givers.ensures.rest.place ∙ c.arrive_after.ensures.rest.place
    ∙ place_told (net_in did.new.self) (net_of c.args.self.now) (marking_of c.args.self.now) did.new.self.control c.args.self.now.net.control c.steer.new.self.control c.args.k did.result.1 did.ensures.net did.ensures.control c.steer.ensures.place did.ensures.leads

pub returns-clause-keeps : goal.returns-clause-keeps
returns-clause-keeps g c = λ counting.
    let s = c.args.self.now in
    let k = c.args.k in
    let did = c.fire_node-fired in
    let led = c.steer.new.self in
    let can : CanFire (fork_moves (net_of s)) (marking_of s) k = record { going = c.requires.going; node = c.requires.node; ready = c.requires.ready } in
    let net : net_in led ≡ net_of s = c.steer.ensures.net ∙ did.ensures.net in
    let marking : operations_on led ≡ (operation_moves (net_of s)).fired (operations_on s.net) k = c.steer.ensures.marking ∙ did.ensures.marking in
    let kept : KeepsApart s.net led = kept_apart s.net did.new.self led did.ensures.kept c.steer.ensures.kept in
    let arrived = c.arrive_after in
    let w = arrived.new.self in
    let rest = arrived.ensures.rest in
    let given = c.test_givers in
    let taken = c.test_taker in
    let again : IsRemarked arrived.new.net taken.new.self.net = remarked_twice arrived.new.net given.new.self.net taken.new.self.net given.ensures.rest taken.ensures.rest in
    let waiting : taken.new.self.waiting ≡ w = taken.ensures.waiting ∙ given.ensures.waiting in
    set_kept s k c.requires.sound can c.requires.loads led net marking kept w arrived.new.net rest arrived.ensures.kept taken.new.self again waiting given.new.self counting arrived.ensures.marks given.ensures.rest given.ensures.waiting
    given.ensures.marks given.ensures.right taken.ensures.marks taken.ensures.right c.others_are_marked.ensures.others c.others_are_marked.ensures.room

pub returns-clause-fired : goal.returns-clause-fired
returns-clause-fired g c = other_answer (net_of c.args.self.now) (marking_of c.args.self.now) c.args.k c.requires.loads c.fire_node-fired.result.0 c.fire_node-fired.ensures.fired

pub returns-clause-last : goal.returns-clause-last
returns-clause-last g c = c.test_taker.ensures.rest.text ∙ c.test_givers.ensures.rest.text ∙ c.arrive_after.ensures.rest.text ∙ c.steer.ensures.last ∙ c.fire_node-fired.ensures.last
