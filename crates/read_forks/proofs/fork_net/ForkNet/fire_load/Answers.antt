use Rattle.std.proofs.Common.{◌≡◌, ◌<◌, ℕ, Vec, Global, true, List, Option, slice_get, refl, sym, ap, ◌∙◌, subst, arith}
use Rattle.closed_walks.specs.Graph.{edge_count}
use Rattle.firing.specs.Moves.{CanFire, newest}
use Rattle.net_board.specs.Nodes.{graph_in}
use Rattle.op_board.specs.OperationNets.{OperationNet, operation_at, operation_node}
use Rattle.op_net.specs.ApartLoads.{flags_of, loaded_apart}
use Rattle.op_net.specs.NetView.{marking_of as operations_on, net_of as net_in}
use Rattle.operation_tables.specs.Waits.{node_total}
use Rattle.fork_board.specs.ForkTokens.{fork_moves, is_load_node}
use Rattle.read_forks.specs.ForkView.{marking_of, net_of}
use Rattle.read_forks.specs.WaitingLoads.{IsRemarked, KeepsMarks}
use Rattle.read_forks.specs.declared.waiting.Waiting.{Waiting}
use Rattle.read_forks.proofs.ArrivedLines.{marks_there}
use Rattle.read_forks.proofs.ForkCourses.{place_told}
use Rattle.read_forks.proofs.KeptNets.{apart_too, remarked_twice}
use Rattle.read_forks.proofs.LoadNames.{load_name}
use Rattle.read_forks.proofs.LoadNets.{IsTaken, closable, empty, given, given_there, kept_steered, marking_end, name, net_end, net_steered, node_closed, of_load, set_kept, steps_steered, taken_there}
use Rattle.read_forks.proofs.LoadNodes.{load_line, load_trap}
use Rattle.read_forks.proofs.fork_net.ForkNet.fire_load.Goals as goal

pub edge_after-edge-requires : goal.edge_after-edge-requires
edge_after-edge-requires g c =
    let s = c.args.self.now in
    let x = net_of s in
    let k = c.args.k in
    let step = c.args.step in
    let can : CanFire (fork_moves x) (marking_of s) k = record { going = c.requires.going; node = c.requires.node; ready = c.requires.ready } in
    (omega arith, (c.requires.node, (name s k step c.requires.sound can c.requires.step c.requires.loads, load_name (operation_at x step.piece step.number).work (of_load s k step c.requires.sound can c.requires.step c.requires.loads))))

pub load_apart-requires : goal.load_apart-requires
load_apart-requires g c =
    let s = c.args.self.now in
    let x = net_of s in
    let k = c.args.k in
    let step = c.args.step in
    let can : CanFire (fork_moves x) (marking_of s) k = record { going = c.requires.going; node = c.requires.node; ready = c.requires.ready } in
    (omega arith, (c.requires.node, (name s k step c.requires.sound can c.requires.step c.requires.loads, (load_name (operation_at x step.piece step.number).work (of_load s k step c.requires.sound can c.requires.step c.requires.loads), (given s k step c.requires.sound can c.requires.step c.requires.loads, (c.requires.sound.is_marking.tokens.memory, empty s k step c.requires.sound can c.requires.step c.requires.loads))))))

pub mark_apart-requires : goal.mark_apart-requires
mark_apart-requires g c =
    let s = c.args.self.now in
    let x = net_of s in
    let k = c.args.k in
    let step = c.args.step in
    let can : CanFire (fork_moves x) (marking_of s) k = record { going = c.requires.going; node = c.requires.node; ready = c.requires.ready } in
    let did = c.load_apart.ensures in
    let fired = c.load_apart.new.self in
    let node : k < node_total (net_in fired) = subst (λ (y : OperationNet). k < node_total y) (sym did.net) c.requires.node in
    let apart = apart_too s.net fired did.net did.kept.apart s.apart in
    (omega arith, (node, apart k node ∙ subst (λ (y : OperationNet). is_load_node y (operation_node y k) ≡ true) (sym did.net) c.requires.loads))

pub index_mut-requires : goal.index_mut-requires
index_mut-requires g c =
    let s = c.args.self.now in
    let x = net_of s in
    let k = c.args.k in
    let step = c.args.step in
    let can : CanFire (fork_moves x) (marking_of s) k = record { going = c.requires.going; node = c.requires.node; ready = c.requires.ready } in
    let low = node_closed s k step c.requires.sound can c.requires.step c.requires.loads in
    omega (arith, low)

pub close_links-requires : goal.close_links-requires
close_links-requires g c =
    let s = c.args.self.now in
    let x = net_of s in
    let k = c.args.k in
    let step = c.args.step in
    let can : CanFire (fork_moves x) (marking_of s) k = record { going = c.requires.going; node = c.requires.node; ready = c.requires.ready } in
    let marked = c.mark_apart.new.self in
    let net : net_in marked ≡ x = c.mark_apart.ensures.net ∙ c.load_apart.ensures.net in
    let marking : operations_on marked ≡ loaded_apart x (operations_on s.net) k step.piece step.number = c.mark_apart.ensures.marking ∙ c.load_apart.ensures.marking in
    (omega arith, closable s k step c.requires.sound can c.requires.step c.requires.loads _ refl refl refl refl refl (c.groups_end.ensures x c.requires.sound.is_net) (c.loads_come_once.ensures x c.requires.sound.is_net) marked net marking)

pub steer-requires : goal.steer-requires
steer-requires g c =
    let s = c.args.self.now in
    let x = net_of s in
    let k = c.args.k in
    let step = c.args.step in
    let can : CanFire (fork_moves x) (marking_of s) k = record { going = c.requires.going; node = c.requires.node; ready = c.requires.ready } in
    let marked = c.mark_apart.new.self in
    let net : net_in marked ≡ x = c.mark_apart.ensures.net ∙ c.load_apart.ensures.net in
    let marking : operations_on marked ≡ loaded_apart x (operations_on s.net) k step.piece step.number = c.mark_apart.ensures.marking ∙ c.load_apart.ensures.marking in
    let shut = c.close_links.new.net in
    (omega arith, subst (λ (y : OperationNet). c.edge_after-edge.result < edge_count (graph_in y.net)) (sym (c.close_links.ensures.net ∙ net)) c.edge_after-edge.ensures.exists)

pub test_givers-requires : goal.test_givers-requires
test_givers-requires g c =
    let s = c.args.self.now in
    let x = net_of s in
    let k = c.args.k in
    let step = c.args.step in
    let can : CanFire (fork_moves x) (marking_of s) k = record { going = c.requires.going; node = c.requires.node; ready = c.requires.ready } in
    let marked = c.mark_apart.new.self in
    let net : net_in marked ≡ x = c.mark_apart.ensures.net ∙ c.load_apart.ensures.net in
    let marking : operations_on marked ≡ loaded_apart x (operations_on s.net) k step.piece step.number = c.mark_apart.ensures.marking ∙ c.load_apart.ensures.marking in
    let shut = c.close_links.new.net in
    let w2 = c.close_links.new.self in
    let done = c.close_links.ensures in
    let led = c.steer.new.self in
    (omega arith, (subst (λ (y : OperationNet). k < node_total y) (sym (net_steered s k step c.requires.sound can c.requires.step c.requires.loads marked shut w2 net marking done.net (done.marking, (done.lines, done.opened)) (ap (λ (v : Vec ℕ Global). v.items) done.closed) led c.steer.ensures.net c.steer.ensures.marking)) c.requires.node, steps_steered s k step c.requires.sound can c.requires.step c.requires.loads marked shut w2 net marking done.net (done.marking, (done.lines, done.opened)) (ap (λ (v : Vec ℕ Global). v.items) done.closed) led c.steer.ensures.net c.steer.ensures.marking done.steps))

pub test_taker-requires : goal.test_taker-requires
test_taker-requires g c =
    let s = c.args.self.now in
    let x = net_of s in
    let k = c.args.k in
    let step = c.args.step in
    let can : CanFire (fork_moves x) (marking_of s) k = record { going = c.requires.going; node = c.requires.node; ready = c.requires.ready } in
    let marked = c.mark_apart.new.self in
    let net : net_in marked ≡ x = c.mark_apart.ensures.net ∙ c.load_apart.ensures.net in
    let marking : operations_on marked ≡ loaded_apart x (operations_on s.net) k step.piece step.number = c.mark_apart.ensures.marking ∙ c.load_apart.ensures.marking in
    let shut = c.close_links.new.net in
    let w2 = c.close_links.new.self in
    let done = c.close_links.ensures in
    let led = c.steer.new.self in
    let tested = c.test_givers.new.self in
    (omega arith, (subst (λ (y : OperationNet). k < node_total y) (sym (c.test_givers.ensures.rest.net ∙ net_steered s k step c.requires.sound can c.requires.step c.requires.loads marked shut w2 net marking done.net (done.marking, (done.lines, done.opened)) (ap (λ (v : Vec ℕ Global). v.items) done.closed) led c.steer.ensures.net c.steer.ensures.marking)) c.requires.node, ap (λ (u : Waiting). slice_get u.steps k) c.test_givers.ensures.waiting ∙ steps_steered s k step c.requires.sound can c.requires.step c.requires.loads marked shut w2 net marking done.net (done.marking, (done.lines, done.opened)) (ap (λ (v : Vec ℕ Global). v.items) done.closed) led c.steer.ensures.net c.steer.ensures.marking done.steps))

pub invariant_of-self : goal.invariant_of-self
invariant_of-self g c =
    let s = c.args.self.now in
    let x = net_of s in
    let k = c.args.k in
    let step = c.args.step in
    let can : CanFire (fork_moves x) (marking_of s) k = record { going = c.requires.going; node = c.requires.node; ready = c.requires.ready } in
    let marked = c.mark_apart.new.self in
    let net : net_in marked ≡ x = c.mark_apart.ensures.net ∙ c.load_apart.ensures.net in
    let marking : operations_on marked ≡ loaded_apart x (operations_on s.net) k step.piece step.number = c.mark_apart.ensures.marking ∙ c.load_apart.ensures.marking in
    let shut = c.close_links.new.net in
    let w2 = c.close_links.new.self in
    let done = c.close_links.ensures in
    let led = c.steer.new.self in
    record {
      apart = apart_too s.net led (net_steered s k step c.requires.sound can c.requires.step c.requires.loads marked shut w2 net marking done.net (done.marking, (done.lines, done.opened)) (ap (λ (v : Vec ℕ Global). v.items) done.closed) led c.steer.ensures.net c.steer.ensures.marking) (c.steer.ensures.kept.apart ∙ done.apart.apart ∙ c.mark_apart.ensures.apart ∙ c.load_apart.ensures.kept.apart) s.apart;
      kept = kept_steered s k step c.requires.sound can c.requires.step c.requires.loads marked shut w2 net marking done.net (done.marking, (done.lines, done.opened)) (ap (λ (v : Vec ℕ Global). v.items) done.closed) led c.steer.ensures.net c.steer.ensures.marking;
    }

pub returns-clause-net : goal.returns-clause-net
returns-clause-net g c =
    let s = c.args.self.now in
    let x = net_of s in
    let k = c.args.k in
    let step = c.args.step in
    let can : CanFire (fork_moves x) (marking_of s) k = record { going = c.requires.going; node = c.requires.node; ready = c.requires.ready } in
    let marked = c.mark_apart.new.self in
    let net : net_in marked ≡ x = c.mark_apart.ensures.net ∙ c.load_apart.ensures.net in
    let marking : operations_on marked ≡ loaded_apart x (operations_on s.net) k step.piece step.number = c.mark_apart.ensures.marking ∙ c.load_apart.ensures.marking in
    let shut = c.close_links.new.net in
    let w2 = c.close_links.new.self in
    let done = c.close_links.ensures in
    let led = c.steer.new.self in
    let again : IsRemarked led c.test_taker.new.self.net = remarked_twice led c.test_givers.new.self.net c.test_taker.new.self.net c.test_givers.ensures.rest c.test_taker.ensures.rest in
    let waiting : c.test_taker.new.self.waiting ≡ w2 = c.test_taker.ensures.waiting ∙ c.test_givers.ensures.waiting in
    net_end s k step c.requires.sound can c.requires.step c.requires.loads marked shut w2 net marking done.net (done.marking, (done.lines, done.opened)) (ap (λ (v : Vec ℕ Global). v.items) done.closed) led c.steer.ensures.net c.steer.ensures.marking c.test_taker.new.self again waiting

pub returns-clause-marking : goal.returns-clause-marking
returns-clause-marking g c =
    let s = c.args.self.now in
    let x = net_of s in
    let k = c.args.k in
    let step = c.args.step in
    let can : CanFire (fork_moves x) (marking_of s) k = record { going = c.requires.going; node = c.requires.node; ready = c.requires.ready } in
    let marked = c.mark_apart.new.self in
    let net : net_in marked ≡ x = c.mark_apart.ensures.net ∙ c.load_apart.ensures.net in
    let marking : operations_on marked ≡ loaded_apart x (operations_on s.net) k step.piece step.number = c.mark_apart.ensures.marking ∙ c.load_apart.ensures.marking in
    let shut = c.close_links.new.net in
    let w2 = c.close_links.new.self in
    let done = c.close_links.ensures in
    let led = c.steer.new.self in
    let again : IsRemarked led c.test_taker.new.self.net = remarked_twice led c.test_givers.new.self.net c.test_taker.new.self.net c.test_givers.ensures.rest c.test_taker.ensures.rest in
    let waiting : c.test_taker.new.self.waiting ≡ w2 = c.test_taker.ensures.waiting ∙ c.test_givers.ensures.waiting in
    marking_end s k step c.requires.sound can c.requires.step c.requires.loads marked shut w2 net marking done.net (done.marking, (done.lines, done.opened)) (ap (λ (v : Vec ℕ Global). v.items) done.closed) led c.steer.ensures.net c.steer.ensures.marking c.test_taker.new.self again waiting

pub returns-clause-place : goal.returns-clause-place
returns-clause-place g c =
    let s = c.args.self.now in
    let x = net_of s in
    let k = c.args.k in
    let step = c.args.step in
    let can : CanFire (fork_moves x) (marking_of s) k = record { going = c.requires.going; node = c.requires.node; ready = c.requires.ready } in
    let marked = c.mark_apart.new.self in
    let net : net_in marked ≡ x = c.mark_apart.ensures.net ∙ c.load_apart.ensures.net in
    let marking : operations_on marked ≡ loaded_apart x (operations_on s.net) k step.piece step.number = c.mark_apart.ensures.marking ∙ c.load_apart.ensures.marking in
    let shut = c.close_links.new.net in
    let w2 = c.close_links.new.self in
    let done = c.close_links.ensures in
    let led = c.steer.new.self in
    let again : IsRemarked led c.test_taker.new.self.net = remarked_twice led c.test_givers.new.self.net c.test_taker.new.self.net c.test_givers.ensures.rest c.test_taker.ensures.rest in
    let waiting : c.test_taker.new.self.waiting ≡ w2 = c.test_taker.ensures.waiting ∙ c.test_givers.ensures.waiting in
    c.test_taker.ensures.rest.place ∙ c.test_givers.ensures.rest.place
    ∙ place_told (net_in shut) x (marking_of s) shut.control s.net.control led.control k c.edge_after-edge.result (done.net ∙ net) (done.place ∙ c.mark_apart.ensures.place ∙ c.load_apart.ensures.place) c.steer.ensures.place (c.edge_after-edge.ensures.leads (operations_on s.net))

pub returns-clause-fired : goal.returns-clause-fired
returns-clause-fired g c =
    let s = c.args.self.now in
    let x = net_of s in
    let k = c.args.k in
    let step = c.args.step in
    let can : CanFire (fork_moves x) (marking_of s) k = record { going = c.requires.going; node = c.requires.node; ready = c.requires.ready } in
    record { line = load_line x (marking_of s) k step.piece step.number (name s k step c.requires.sound can c.requires.step c.requires.loads) (of_load s k step c.requires.sound can c.requires.step c.requires.loads); trap = load_trap x (marking_of s) k step.piece step.number c.requires.sound c.requires.node (name s k step c.requires.sound can c.requires.step c.requires.loads) (of_load s k step c.requires.sound can c.requires.step c.requires.loads) ∙ c.requires.going }

pub returns-clause-last : goal.returns-clause-last
returns-clause-last g c =
    let s = c.args.self.now in
    let x = net_of s in
    let k = c.args.k in
    let step = c.args.step in
    let can : CanFire (fork_moves x) (marking_of s) k = record { going = c.requires.going; node = c.requires.node; ready = c.requires.ready } in
    let marked = c.mark_apart.new.self in
    let net : net_in marked ≡ x = c.mark_apart.ensures.net ∙ c.load_apart.ensures.net in
    let marking : operations_on marked ≡ loaded_apart x (operations_on s.net) k step.piece step.number = c.mark_apart.ensures.marking ∙ c.load_apart.ensures.marking in
    let shut = c.close_links.new.net in
    let w2 = c.close_links.new.self in
    let done = c.close_links.ensures in
    let led = c.steer.new.self in
    let again : IsRemarked led c.test_taker.new.self.net = remarked_twice led c.test_givers.new.self.net c.test_taker.new.self.net c.test_givers.ensures.rest c.test_taker.ensures.rest in
    let waiting : c.test_taker.new.self.waiting ≡ w2 = c.test_taker.ensures.waiting ∙ c.test_givers.ensures.waiting in
    again.text ∙ c.steer.ensures.last ∙ done.last ∙ c.mark_apart.ensures.last ∙ c.load_apart.ensures.last
    ∙ sym (ap (λ (o : Option (List ℕ)). newest o s.net.text.items) (load_line x (marking_of s) k step.piece step.number (name s k step c.requires.sound can c.requires.step c.requires.loads) (of_load s k step c.requires.sound can c.requires.step c.requires.loads)))

pub returns-clause-keeps : goal.returns-clause-keeps
returns-clause-keeps g c =
    let s = c.args.self.now in
    let x = net_of s in
    let k = c.args.k in
    let step = c.args.step in
    let can : CanFire (fork_moves x) (marking_of s) k = record { going = c.requires.going; node = c.requires.node; ready = c.requires.ready } in
    let marked = c.mark_apart.new.self in
    let net : net_in marked ≡ x = c.mark_apart.ensures.net ∙ c.load_apart.ensures.net in
    let marking : operations_on marked ≡ loaded_apart x (operations_on s.net) k step.piece step.number = c.mark_apart.ensures.marking ∙ c.load_apart.ensures.marking in
    let shut = c.close_links.new.net in
    let w2 = c.close_links.new.self in
    let done = c.close_links.ensures in
    let led = c.steer.new.self in
    let again : IsRemarked led c.test_taker.new.self.net = remarked_twice led c.test_givers.new.self.net c.test_taker.new.self.net c.test_givers.ensures.rest c.test_taker.ensures.rest in
    let waiting : c.test_taker.new.self.waiting ≡ w2 = c.test_taker.ensures.waiting ∙ c.test_givers.ensures.waiting in
    λ keeps.
    let same : net_in led ≡ x = net_steered s k step c.requires.sound can c.requires.step c.requires.loads marked shut w2 net marking done.net (done.marking, (done.lines, done.opened)) (ap (λ (v : Vec ℕ Global). v.items) done.closed) led c.steer.ensures.net c.steer.ensures.marking in
    let there : operations_on led ≡ operations_on shut = c.steer.ensures.marking in
    let given = c.test_givers.new.self in
    let gave = c.test_givers.ensures in
    let took = c.test_taker.ensures in
    let given_net : net_of given ≡ x = gave.rest.net ∙ same in
    let given_marking : operations_on given.net ≡ operations_on shut = gave.rest.marking ∙ there in
    let taker_kept : KeepsMarks (net_of given) (operations_on given.net) w2.closed.items w2.closed.items (flags_of given.net) (flags_of c.test_taker.new.self.net) = subst (λ (u : Waiting). KeepsMarks (net_of given) (operations_on given.net) u.closed.items u.closed.items (flags_of given.net) (flags_of c.test_taker.new.self.net)) gave.waiting took.marks in
    let taker_right : IsTaken (net_of given) (operations_on given.net) k w2.closed.items (flags_of given.net) (flags_of c.test_taker.new.self.net) = subst (λ (u : Waiting). IsTaken (net_of given) (operations_on given.net) k u.closed.items (flags_of given.net) (flags_of c.test_taker.new.self.net)) gave.waiting took.right in
    set_kept s k step c.requires.sound can c.requires.step c.requires.loads marked shut w2 net marking done.net (done.marking, (done.lines, done.opened)) (ap (λ (v : Vec ℕ Global). v.items) done.closed) led c.steer.ensures.net c.steer.ensures.marking c.test_taker.new.self again waiting c.load_apart.new.self given.net keeps c.load_apart.ensures.kept c.mark_apart.ensures.flags c.mark_apart.ensures.apart c.mark_apart.ensures.counted done.apart c.steer.ensures.kept
    (marks_there x (net_in led) (operations_on shut) (operations_on led) same there w2.closed.items w2.closed.items (flags_of led) (flags_of given.net) gave.marks)
    (given_there x (net_in led) (operations_on shut) (operations_on led) same there k w2.closed.items (flags_of led) (flags_of given.net) gave.right)
    (marks_there x (net_of given) (operations_on shut) (operations_on given.net) given_net given_marking w2.closed.items w2.closed.items (flags_of given.net) (flags_of c.test_taker.new.self.net) taker_kept)
    (taken_there x (net_of given) (operations_on shut) (operations_on given.net) given_net given_marking k w2.closed.items (flags_of given.net) (flags_of c.test_taker.new.self.net) taker_right)
    c.others_are_marked.ensures.others c.others_are_marked.ensures.room
