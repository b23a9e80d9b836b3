use Rattle.std.proofs.Common.{◌≡◌, ◌<◌, ◌-◌, sym, subst, arith}
use Rattle.closed_walks.specs.Graph.{edge_count}
use Rattle.net_board.specs.declared.control.Control.{Control}
use Rattle.net_board.specs.ControlPlaces.{IsPlaced}
use Rattle.net_board.specs.Nodes.{graph_in}
use Rattle.op_board.specs.OperationCourse.{control_after, decided}
use Rattle.op_board.specs.OperationNets.{OperationNet, operation_count, operation_node_count}
use Rattle.op_board.specs.OperationTokens.{OperationTokens}
use Rattle.op_board.proofs.LockstepOperations.{IsDueOperation, due_operation_is}
use Rattle.op_net.specs.NetView.{marking_of, net_of}
use Rattle.operation_places.specs.Visits.{IsVisit}
use Rattle.operation_places.proofs.ControlMoveLemmas.{steered_if}
use Rattle.op_net.proofs.net.OpNet.fire_visited.Goals as goal

pub fire_numbered-fired-requires : goal.fire_numbered-fired-requires
fire_numbered-fired-requires g c =
    let x = net_of c.args.self.now in
    let v = c.args.visit.now in
    let due : IsDueOperation x v.control c.args.k = due_operation_is x v.control c.args.k c.requires.due in
    (omega arith, (c.requires.visit.placed.piece, (sym due.is, (c.requires.visit.operations, (c.requires.node, (c.requires.ready, (c.requires.sizes, c.requires.going)))))))

pub passed_on-requires : goal.passed_on-requires
passed_on-requires g c =
    let x = net_of c.args.self.now in
    let v = c.args.visit.now in
    let due : IsDueOperation x v.control c.args.k = due_operation_is x v.control c.args.k c.requires.due in
    let same = sym c.fire_numbered-fired.ensures.net in
    (omega arith, (subst (λ (y : OperationNet). IsVisit y v) same c.requires.visit, (subst (λ (y : OperationNet). v.control.fired < operation_node_count y v.control.piece) same due.low, subst (λ (y : OperationNet). c.fire_numbered-fired.result.1 < edge_count (graph_in y.net)) same c.fire_numbered-fired.ensures.edge)))

pub returns-clause-place : goal.returns-clause-place
returns-clause-place g c =
    let x = net_of c.args.self.now in
    let m = marking_of c.args.self.now in
    let v = c.args.visit.now in
    let edge = c.fire_numbered-fired.result.1 in
    let next = c.passed_on.result.control in
    let moved : (m : OperationTokens) → (v.control.fired ≡ operation_count x v.control.piece - 1 → decided x m v.control.piece v.control.fired ≡ edge) → next ≡ control_after x m v.control = subst (λ (y : OperationNet). (m : OperationTokens) → (v.control.fired ≡ operation_count y v.control.piece - 1 → decided y m v.control.piece v.control.fired ≡ edge) → next ≡ control_after y m v.control) c.fire_numbered-fired.ensures.net c.passed_on.ensures.moved in
    steered_if x m c.args.self.now.control v.control next c.args.k c.requires.here c.requires.due (moved m (λ last. c.fire_numbered-fired.ensures.leads v.control c.requires.visit.placed c.requires.due last))

pub invariant_of-self : goal.invariant_of-self
invariant_of-self g c =
    let fired = c.fire_numbered-fired.new.self in
    let placed = c.passed_on.ensures.visit.placed in
    record {
      own_places = fired.own_places;
      counted = fired.counted;
      «data» = fired.data;
      text_room = fired.text_room;
      draft_room = fired.draft_room;
      args_room = fired.args_room;
      values_room = fired.values_room;
      placed = λ p is. subst (λ (d : Control). IsPlaced (net_of fired).net d) (let e : c.passed_on.result.control ≡ p = cc in e) placed;
    }
