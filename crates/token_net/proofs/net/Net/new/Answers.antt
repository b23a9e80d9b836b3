use Rattle.std.proofs.Common.{◌≡◌, length, sym, ap, ◌∙◌, subst, arith}
use Rattle.std.proofs.lemmas.List.{length-replicate}
use Rattle.f77_tree.specs.Execution.{Memory}
use Rattle.f77_meaning.specs.Room.{most_room}
use Rattle.f77_meaning.specs.Storage.{memory_of}
use Rattle.dep_routing.specs.Touch.{touches_in}
use Rattle.net_board.specs.declared.control.Control.{Control}
use Rattle.net_board.specs.Nodes.{NetOf, nodes_of}
use Rattle.net_board.specs.NetParts.{net_with}
use Rattle.net_board.specs.ControlPlaces.{IsPlaced}
use Rattle.net_tables.specs.LookupView.{net_on}
use Rattle.token_net.proofs.NewNetLemmas.{every_line, every_node, first_made, can_come, in_step}
use Rattle.token_net.proofs.net.Net.new.Goals as goal

pub invariant_of-result : goal.invariant_of-result
invariant_of-result g c =
    let board = c.in_ok-board.board in
    let net : NetOf = net_on board in
    let same : net ≡ net_with c.args.p.now c.args.input.now.items (touches_in c.args.touch.now) c.args.l.now = c.in_ok-board.ensures in
    let taken = ap (λ (m : Memory). m.taken) c.in_ok-initial_storage.ensures in
    let room : most_room net.program.execs ≡ c.longest_line-room.result = ap (λ (x : NetOf). most_room x.program.execs) same ∙ ap most_room (sym c.as_slice.ensures.items) ∙ sym c.longest_line-room.ensures in
    let lines : net.routing.lines ≡ c.lines.result = ap (λ (x : NetOf). x.routing.lines) same ∙ sym c.lines.ensures in
    let set = ap length c.in_ok-with_room.ensures ∙ length-replicate c.nodes-2.result Rattle.std.proofs.Common.false ∙ c.nodes-2.ensures in
    record {
      every_line = every_line net c.in_ok-first_places.field-0.items c.in_ok-first_places.ensures;
      every_node = every_node (length (nodes_of net)) c.nodes.result c.in_ok-nothing_left.field-0.items c.in_ok-nothing_left.ensures c.nodes.ensures;
      «data» = omega (arith, taken);
      text_room = let exact = c.in_ok-with_capacity.ensures.exact in omega (arith, room, exact);
      draft_room = let exact = c.in_ok-with_capacity-2.ensures.exact in omega (arith, room, exact);
      woken_room = let exact = c.in_ok-with_capacity-3.ensures.exact in omega (arith, lines, exact);
      placed = λ x is. subst (λ (d : Control). IsPlaced net d) (let e : c.first_control-control.result ≡ x = cc in e) c.first_control-control.ensures.placed;
      marks = set;
    }

pub returns-clause-net : goal.returns-clause-net
returns-clause-net g c = c.in_ok-board.ensures

pub returns-clause-sound : goal.returns-clause-sound
returns-clause-sound g c =
    let net : NetOf = net_on c.in_ok-board.board in
    let made : NetOf = net_with c.args.p.now c.args.input.now.items (touches_in c.args.touch.now) c.args.l.now in
    let same : net ≡ made = c.in_ok-board.ensures in
    let memory = c.in_ok-initial_storage.ensures ∙ ap (λ (x : NetOf). Rattle.f77_tree.specs.Run.first_memory x.program) (sym same) in
    can_come net made _ same (first_made net c.nodes.result c.in_ok-first_places.field-0.items c.in_ok-nothing_left.field-0.items (memory_of c.in_ok-initial_storage.field-0) c.in_ok-first_places.ensures c.in_ok-nothing_left.ensures c.nodes.ensures memory)
    (c.program_nets_begin.ensures.sound c.args.p.now c.args.f.now (touches_in c.args.touch.now) c.args.l.now c.args.input.now.items c.requires.parts c.words_are_words.ensures)

pub returns-clause-in_step : goal.returns-clause-in_step
returns-clause-in_step g c =
    let net : NetOf = net_on c.in_ok-board.board in
    let made : NetOf = net_with c.args.p.now c.args.input.now.items (touches_in c.args.touch.now) c.args.l.now in
    let same : net ≡ made = c.in_ok-board.ensures in
    let memory = c.in_ok-initial_storage.ensures ∙ ap (λ (x : NetOf). Rattle.f77_tree.specs.Run.first_memory x.program) (sym same) in
    in_step net made _ c.first_control-control.result same (first_made net c.nodes.result c.in_ok-first_places.field-0.items c.in_ok-nothing_left.field-0.items (memory_of c.in_ok-initial_storage.field-0) c.in_ok-first_places.ensures c.in_ok-nothing_left.ensures c.nodes.ensures memory) c.first_control-control.ensures.control
    (c.program_nets_begin.ensures.in_lockstep c.args.p.now c.args.f.now (touches_in c.args.touch.now) c.args.l.now c.args.input.now.items c.requires.parts c.words_are_words.ensures)
