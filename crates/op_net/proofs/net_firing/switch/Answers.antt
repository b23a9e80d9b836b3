use Rattle.std.proofs.Common.{◌≡◌, ◌<◌, ℕ, true, false, Option, None, Some, is_some, refl, subst, sym, ap, ◌∙◌, arith, rules}
use Rattle.closed_walks.specs.Graph.{edge_count}
use Rattle.dep_routing.specs.Routing.{next_at}
use Rattle.firing.specs.declared.system.NodeName.{NodeName}
use Rattle.net_board.specs.Nodes.{graph_in}
use Rattle.net_board.specs.Tokens.{edge_of, led_from, left_for}
use Rattle.net_board.specs.WokenNodes.{switch_number}
use Rattle.net_tables.proofs.TokenLineLemmas.{led_below, read_edge}
use Rattle.op_board.specs.OperationNets.{operation_node}
use Rattle.op_board.specs.OperationTokens.{OperationTokens, passed_by}
use Rattle.operation_tables.specs.BoardView.{operation_net_on}
use Rattle.operation_places.specs.PlacesView.{IsCountedAhead, edge_put, line_put, standing}
use Rattle.operation_places.specs.SoundPlaces.{ArePlaces}
use Rattle.operation_tables.specs.Waits.{AreSwitchNodes, IsSwitchOf, stands_at}
use Rattle.operation_places.proofs.CountedAhead.{ahead_counted}
use Rattle.operation_places.proofs.CountsKept.{keeps_more}
use Rattle.op_net.proofs.LedLines.{IsReadySwitch, ready_switch, switch_marking, switch_stands, switch_through}
use Rattle.operation_tables.proofs.NodeNames.{IsSwitchAt, switch_at_node}
use Rattle.operation_tables.proofs.NodesBefore.{one_before}
use Rattle.op_net.proofs.OperatedNets.{ahead_by}
use Rattle.op_net.proofs.PlacesKept.{cleared_kept, led_kept}
use Rattle.operation_tables.proofs.SwitchNodes.{some_operations, switch_nodes}
use Rattle.op_net.proofs.net_firing.switch.Goals as goal

pub switch_number-switch-requires : goal.switch_number-switch-requires
switch_number-switch-requires g c = (omega arith, (c.requires.node, subst (λ (n : NodeName). IsSwitchOf n c.args.piece) (sym c.requires.name) refl))

pub decision-requires : goal.decision-requires
decision-requires g c =
    let x = operation_net_on c.args.board.now in
    let n : IsSwitchAt x c.args.k c.args.piece c.args.line = switch_at_node x c.args.k c.args.piece c.args.line c.requires.node c.requires.name in
    (omega arith, (n.exists, some_operations x c.args.board.now.plan.facts c.args.k c.args.piece c.args.line c.requires.node c.requires.name))

pub clear-requires : goal.clear-requires
clear-requires g c =
    let x = operation_net_on c.args.board.now in
    let m = standing c.args.places.now in
    let k = c.args.k in
    let piece = c.args.piece in
    let line = c.args.line in
    let switch = c.switch_number-switch.result in
    let own = c.count_ahead.ensures.places in
    let is : switch ≡ switch_number x.net piece line = c.switch_number-switch.ensures.number line c.requires.name in
    let within = c.switch_number-switch.ensures.within in
    let before = c.requires.places.edges in
    let edges = own.edges in
    let at : left_for m.tokens switch ≡ Some c.in-Some.edge = read_edge c.args.places.now.edges.items switch c.index.result.now (omega (arith, within, before)) c.index.ensures ∙ c.in-Some.is in
    let full : is_some (left_for (standing c.count_ahead.new.places).tokens switch) ≡ true = ap (λ (a : OperationTokens). is_some (left_for a.tokens switch)) c.count_ahead.ensures.standing ∙ ap (λ (o : Option ℕ). is_some o) at in
    let nodes = switch_nodes x c.args.board.now.plan.facts k piece line c.requires.node c.requires.name in
    (omega arith, (omega (arith, within, edges), (c.requires.node, (own.marks, (ahead_by x c.count_ahead.new.places k 1 1 c.count_ahead.ensures.ahead, (full, λ asked. subst (λ (s : ℕ). AreSwitchNodes x s k c.decision.result) (sym is) (subst (AreSwitchNodes x (switch_number x.net piece line) k) (sym c.decision.ensures) nodes)))))))

pub lead_line-requires : goal.lead_line-requires
lead_line-requires g c =
    let x = operation_net_on c.args.board.now in
    let m = standing c.args.places.now in
    let k = c.args.k in
    let piece = c.args.piece in
    let line = c.args.line in
    let switch = c.switch_number-switch.result in
    let n : IsSwitchAt x k piece line = switch_at_node x k piece line c.requires.node c.requires.name in
    let r : IsReadySwitch x m k piece line = ready_switch x m k piece line c.requires.ready in
    let within = c.switch_number-switch.ensures.within in
    let before = c.requires.places.edges in
    let at : left_for m.tokens switch ≡ Some c.in-Some.edge = read_edge c.args.places.now.edges.items switch c.index.result.now (omega (arith, within, before)) c.index.ensures ∙ c.in-Some.is in
    let edge : c.in-Some.edge < edge_count (graph_in x.net) = c.requires.places.lie switch c.in-Some.edge at in
    let own : ArePlaces x c.clear.new.self = cleared_kept c.args.board.now c.count_ahead.new.places c.clear.new.self c.count_ahead.ensures.places c.clear.ensures.kept switch c.clear.ensures.standing in
    let same : standing c.clear.new.self ≡ edge_put m switch None = c.clear.ensures.standing ∙ ap (λ (a : OperationTokens). edge_put a switch None) c.count_ahead.ensures.standing in
    let stands = subst (λ (a : OperationTokens). stands_at x (edge_of a.tokens line) (passed_by a line) (operation_node x k) line ≡ true) (sym same) (switch_stands x m k piece line c.requires.name r.before) in
    let from = one_before x c.args.board.now.plan.facts k line (edge_of (standing c.clear.new.self).tokens line) (passed_by (standing c.clear.new.self) line) c.requires.node (switch_through x m k piece line c.requires.name) stands in
    let ahead : IsCountedAhead x c.clear.new.self k 1 = c.clear.ensures.counted 1 c.count_ahead.ensures.ahead in
    (omega arith, (edge, (n.low, (own.lines, (own.passed, (own.marks, (c.requires.node, (ahead_by x c.clear.new.self k 1 0 ahead, from))))))))

pub returns-clause-standing : goal.returns-clause-standing
returns-clause-standing g c =
    let x = operation_net_on c.args.board.now in
    let m = standing c.args.places.now in
    let k = c.args.k in
    let piece = c.args.piece in
    let line = c.args.line in
    let switch = c.switch_number-switch.result in
    let is : switch ≡ switch_number x.net piece line = c.switch_number-switch.ensures.number line c.requires.name in
    let within = c.switch_number-switch.ensures.within in
    let before = c.requires.places.edges in
    let at : left_for m.tokens switch ≡ Some c.in-Some.edge = read_edge c.args.places.now.edges.items switch c.index.result.now (omega (arith, within, before)) c.index.ensures ∙ c.in-Some.is in
    c.lead_line.ensures.standing
    ∙ ap (λ (a : OperationTokens). line_put a line (led_from x.net c.in-Some.edge line) 0) (c.clear.ensures.standing ∙ ap (λ (a : OperationTokens). edge_put a switch None) c.count_ahead.ensures.standing)
    ∙ switch_marking x m k piece line switch c.in-Some.edge is at

pub returns-clause-counted : goal.returns-clause-counted
returns-clause-counted g c =
    let x = operation_net_on c.args.board.now in
    ahead_counted x c.lead_line.new.places c.args.k (c.lead_line.ensures.counted 0 (c.clear.ensures.counted 1 c.count_ahead.ensures.ahead))

pub returns-clause-kept : goal.returns-clause-kept
returns-clause-kept g c =
    keeps_more c.args.places.now c.count_ahead.new.places c.lead_line.new.places c.count_ahead.ensures.kept
    (keeps_more c.count_ahead.new.places c.clear.new.self c.lead_line.new.places c.clear.ensures.kept c.lead_line.ensures.kept)

pub returns-clause-places : goal.returns-clause-places
returns-clause-places g c =
    let x = operation_net_on c.args.board.now in
    let m = standing c.args.places.now in
    let n : IsSwitchAt x c.args.k c.args.piece c.args.line = switch_at_node x c.args.k c.args.piece c.args.line c.requires.node c.requires.name in
    let switch = c.switch_number-switch.result in
    let within = c.switch_number-switch.ensures.within in
    let before = c.requires.places.edges in
    let at : left_for m.tokens switch ≡ Some c.in-Some.edge = read_edge c.args.places.now.edges.items switch c.index.result.now (omega (arith, within, before)) c.index.ensures ∙ c.in-Some.is in
    let edge : c.in-Some.edge < edge_count (graph_in x.net) = c.requires.places.lie switch c.in-Some.edge at in
    let own : ArePlaces x c.clear.new.self = cleared_kept c.args.board.now c.count_ahead.new.places c.clear.new.self c.count_ahead.ensures.places c.clear.ensures.kept switch c.clear.ensures.standing in
    led_kept c.args.board.now c.clear.new.self c.lead_line.new.places own c.lead_line.ensures.kept c.args.line (next_at x.net.routing c.args.line c.in-Some.edge) (led_below c.args.board.now.plan.board.plan c.in-Some.edge c.args.line n.low edge) c.lead_line.ensures.standing

pub returns-clause-edge : goal.returns-clause-edge
returns-clause-edge g c =
    let m = standing c.args.places.now in
    let switch = c.switch_number-switch.result in
    let within = c.switch_number-switch.ensures.within in
    let before = c.requires.places.edges in
    let at : left_for m.tokens switch ≡ Some c.in-Some.edge = read_edge c.args.places.now.edges.items switch c.index.result.now (omega (arith, within, before)) c.index.ensures ∙ c.in-Some.is in
    c.requires.places.lie switch c.in-Some.edge at

pub returns-in_default : goal.returns-in_default
returns-in_default g c =
    let x = operation_net_on c.args.board.now in
    let m = standing c.args.places.now in
    let switch = c.switch_number-switch.result in
    let r : IsReadySwitch x m c.args.k c.args.piece c.args.line = ready_switch x m c.args.k c.args.piece c.args.line c.requires.ready in
    let is : switch ≡ switch_number x.net c.args.piece c.args.line = c.switch_number-switch.ensures.number c.args.line c.requires.name in
    let within = c.switch_number-switch.ensures.within in
    let before = c.requires.places.edges in
    let none : c.index.result.now ≡ None = search rules in
    let at : left_for m.tokens switch ≡ None = read_edge c.args.places.now.edges.items switch c.index.result.now (omega (arith, within, before)) c.index.ensures ∙ none in
    let clash : false ≡ true = sym (ap (λ (o : Option ℕ). is_some o) (ap (left_for m.tokens) (sym is) ∙ at)) ∙ r.left in
    absurd cc
