use Rattle.std.proofs.Common.{◌≡◌, true, subst, sym, ap, ◌∙◌, arith}
use Rattle.dep_routing.specs.Routing.{next_at}
use Rattle.net_board.specs.Tokens.{edge_of, led_from}
use Rattle.net_tables.proofs.TokenLineLemmas.{led_below}
use Rattle.op_board.specs.OperationNets.{operation_node}
use Rattle.op_board.specs.OperationTokens.{OperationTokens, passed_by}
use Rattle.operation_tables.specs.BoardView.{operation_net_on}
use Rattle.operation_places.specs.PlacesView.{line_put, standing}
use Rattle.operation_tables.specs.Waits.{stands_at}
use Rattle.operation_places.proofs.CountedAhead.{ahead_counted}
use Rattle.operation_places.proofs.CountsKept.{keeps_more}
use Rattle.op_net.proofs.LedLines.{merge_marking, merge_stands, merge_through}
use Rattle.operation_tables.proofs.NodeNames.{IsMergeAt, merge_at_node}
use Rattle.operation_tables.proofs.NodesBefore.{one_before}
use Rattle.op_net.proofs.OperatedNets.{ahead_by}
use Rattle.op_net.proofs.PlacesKept.{led_kept}
use Rattle.op_net.proofs.net_firing.merge.Goals as goal

pub out_edge-edge-requires : goal.out_edge-edge-requires
out_edge-edge-requires g c =
    let n : IsMergeAt (operation_net_on c.args.board.now) c.args.k c.args.piece c.args.line = merge_at_node (operation_net_on c.args.board.now) c.args.k c.args.piece c.args.line c.requires.node c.requires.name in
    (omega arith, n.exists)

pub lead_line-requires : goal.lead_line-requires
lead_line-requires g c =
    let x = operation_net_on c.args.board.now in
    let m = standing c.args.places.now in
    let k = c.args.k in
    let piece = c.args.piece in
    let line = c.args.line in
    let n : IsMergeAt x k piece line = merge_at_node x k piece line c.requires.node c.requires.name in
    let own = c.count_ahead.ensures.places in
    let m1 = standing c.count_ahead.new.places in
    let stands = subst (λ (a : OperationTokens). stands_at x (edge_of a.tokens line) (passed_by a line) (operation_node x k) line ≡ true) (sym c.count_ahead.ensures.standing) (merge_stands x m k piece line c.requires.name c.requires.ready) in
    let from = one_before x c.args.board.now.plan.facts k line (edge_of m1.tokens line) (passed_by m1 line) c.requires.node (merge_through x m k piece line c.requires.name) stands in
    (omega arith, (c.out_edge-edge.ensures.exists, (n.low, (own.lines, (own.passed, (own.marks, (c.requires.node, (ahead_by x c.count_ahead.new.places k 1 0 c.count_ahead.ensures.ahead, from))))))))

pub returns-clause-standing : goal.returns-clause-standing
returns-clause-standing g c =
    let x = operation_net_on c.args.board.now in
    let m = standing c.args.places.now in
    c.lead_line.ensures.standing
    ∙ ap (λ (a : OperationTokens). line_put a c.args.line (led_from x.net c.out_edge-edge.result c.args.line) 0) c.count_ahead.ensures.standing
    ∙ merge_marking x m c.args.k c.args.piece c.args.line c.out_edge-edge.result c.out_edge-edge.ensures.edge

pub returns-clause-counted : goal.returns-clause-counted
returns-clause-counted g c = ahead_counted (operation_net_on c.args.board.now) c.lead_line.new.places c.args.k (c.lead_line.ensures.counted 0 c.count_ahead.ensures.ahead)

pub returns-clause-kept : goal.returns-clause-kept
returns-clause-kept g c = keeps_more c.args.places.now c.count_ahead.new.places c.lead_line.new.places c.count_ahead.ensures.kept c.lead_line.ensures.kept

pub returns-clause-places : goal.returns-clause-places
returns-clause-places g c =
    let x = operation_net_on c.args.board.now in
    let n : IsMergeAt x c.args.k c.args.piece c.args.line = merge_at_node x c.args.k c.args.piece c.args.line c.requires.node c.requires.name in
    led_kept c.args.board.now c.count_ahead.new.places c.lead_line.new.places c.count_ahead.ensures.places c.lead_line.ensures.kept c.args.line (next_at x.net.routing c.args.line c.out_edge-edge.result) (led_below c.args.board.now.plan.board.plan c.out_edge-edge.result c.args.line n.low c.out_edge-edge.ensures.exists) c.lead_line.ensures.standing

pub returns-clause-exists : goal.returns-clause-exists
returns-clause-exists g c = c.out_edge-edge.ensures.exists
