use Rattle.std.proofs.Common.{◌≡◌, length, vec_len, sym, ap, ◌∙◌, subst, arith, rules}
use Rattle.f77_tree.specs.Execution.{Memory}
use Rattle.f77_meaning.specs.Room.{most_room}
use Rattle.f77_meaning.specs.Storage.{memory_of}
use Rattle.dep_routing.specs.Touch.{touches_in}
use Rattle.net_board.specs.declared.control.Control.{Control}
use Rattle.net_board.specs.ControlPlaces.{IsPlaced}
use Rattle.net_board.specs.Nodes.{NetOf}
use Rattle.net_board.specs.NetParts.{net_with}
use Rattle.op_board.specs.OperationNets.{OperationNet}
use Rattle.operation_tables.specs.PlanView.{operations_in}
use Rattle.op_net.proofs.NewNetLemmas.{can_come, first_marking, in_step, memory_first, not_counted, own_places}
use Rattle.op_net.proofs.net.OpNet.new.Goals as goal

pub invariant_of-result : goal.invariant_of-result
invariant_of-result g c =
    let x : OperationNet = operations_in c.in_ok-board.board.plan in
    let same : x.net ≡ net_with c.args.p.now c.args.input.now.items (touches_in c.args.touch.now) c.args.l.now = c.in_ok-board.ensures.net in
    let taken = ap (λ (m : Memory). m.taken) c.in_ok-initial_storage.ensures in
    let room : most_room x.net.program.execs ≡ c.longest_line-room.result = ap (λ (net : NetOf). most_room net.program.execs) same ∙ ap most_room (sym c.as_slice.ensures.items) ∙ sym c.longest_line-room.ensures in
    record {
      own_places = own_places x c.in_ok-places.places c.in_ok-places.ensures (c.operation_nets_begin_soundly.ensures x c.in_ok-board.ensures.is_net);
      counted = not_counted x c.in_ok-places.places c.in_ok-places.ensures;
      «data» = omega (arith, taken);
      text_room = let exact = c.in_ok-with_capacity.ensures.exact in omega (arith, room, exact);
      draft_room = let exact = c.in_ok-with_capacity-2.ensures.exact in omega (arith, room, exact);
      args_room = let exact = c.in_ok-with_capacity-3.ensures.exact in omega (arith, exact);
      values_room = let long = c.in_ok-vec.ensures.len in let all : length c.in_ok-vec.field-0.items ≡ vec_len c.in_ok-vec.field-0 = search rules in omega (arith, long, all);
      placed = λ p is. subst (λ (d : Control). IsPlaced x.net d) (let e : c.first_control-control.result ≡ p = cc in e) c.first_control-control.ensures.placed;
    }

pub returns-clause-net : goal.returns-clause-net
returns-clause-net g c = c.in_ok-board.ensures.net

pub returns-clause-is_net : goal.returns-clause-is_net
returns-clause-is_net g c = c.in_ok-board.ensures.is_net

pub returns-clause-outside_pieces : goal.returns-clause-outside_pieces
returns-clause-outside_pieces g c = c.in_ok-board.ensures.outside_pieces

pub returns-clause-outside_operations : goal.returns-clause-outside_operations
returns-clause-outside_operations g c = c.in_ok-board.ensures.outside_operations

pub returns-clause-marking : goal.returns-clause-marking
returns-clause-marking g c =
    let x : OperationNet = operations_in c.in_ok-board.board.plan in
    let memory = memory_first x.net c.args.p.now c.args.input.now.items (touches_in c.args.touch.now) c.args.l.now (memory_of c.in_ok-initial_storage.field-0) c.in_ok-board.ensures.net c.in_ok-initial_storage.ensures in
    first_marking x c.in_ok-places.places c.in_ok-places.ensures (memory_of c.in_ok-initial_storage.field-0) memory

pub returns-clause-uncounted : goal.returns-clause-uncounted
returns-clause-uncounted g c = c.in_ok-places.ensures.counted

pub returns-clause-sound : goal.returns-clause-sound
returns-clause-sound g c =
    let x : OperationNet = operations_in c.in_ok-board.board.plan in
    let memory = memory_first x.net c.args.p.now c.args.input.now.items (touches_in c.args.touch.now) c.args.l.now (memory_of c.in_ok-initial_storage.field-0) c.in_ok-board.ensures.net c.in_ok-initial_storage.ensures in
    can_come x _ (first_marking x c.in_ok-places.places c.in_ok-places.ensures (memory_of c.in_ok-initial_storage.field-0) memory) (c.operation_nets_begin_soundly.ensures x c.in_ok-board.ensures.is_net)

pub returns-clause-in_step : goal.returns-clause-in_step
returns-clause-in_step g c =
    let x : OperationNet = operations_in c.in_ok-board.board.plan in
    let memory = memory_first x.net c.args.p.now c.args.input.now.items (touches_in c.args.touch.now) c.args.l.now (memory_of c.in_ok-initial_storage.field-0) c.in_ok-board.ensures.net c.in_ok-initial_storage.ensures in
    in_step x _ (first_marking x c.in_ok-places.places c.in_ok-places.ensures (memory_of c.in_ok-initial_storage.field-0) memory) c.first_control-control.result c.first_control-control.ensures.control
    (c.operation_nets_stay_in_lockstep.ensures.begins x c.in_ok-board.ensures.is_net) (c.operation_nets_stay_in_lockstep.ensures.steady x) (c.operation_nets_stay_in_lockstep.ensures.ordered x) (c.operation_nets_pass_pieces_whole.ensures x c.in_ok-board.ensures.is_net)
