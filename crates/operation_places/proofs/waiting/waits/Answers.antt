use Rattle.std.proofs.Common.{◌≡◌, ◌<◌, ◌+◌, not, is_some, length, sym, ap, ◌∙◌, arith}
use Rattle.firing.specs.declared.system.NodeName.TheVariants.{Switch}
use Rattle.net_board.specs.TokenEdges.{edge_at}
use Rattle.net_board.specs.Tokens.{is_before, left_for}
use Rattle.net_board.specs.WokenNodes.{switch_number}
use Rattle.net_tables.proofs.TokenLineLemmas.{read_edge}
use Rattle.op_board.specs.OperationNets.{operation_node}
use Rattle.operation_tables.specs.BoardView.{operation_net_on}
use Rattle.operation_places.specs.PlacesView.{standing}
use Rattle.operation_tables.specs.Waits.{one_if, waits_as}
use Rattle.operation_tables.proofs.NodeNames.{merge_at_node, switch_at_node}
use Rattle.operation_places.proofs.waiting.waits.Goals as goal

pub is_before-requires : goal.is_before-requires
is_before-requires g c =
    let x = operation_net_on c.args.board.now in
    let at = switch_at_node x c.args.k c.in-Switch.piece c.in-Switch.line c.requires.node (sym c.name.ensures ∙ c.in-Switch.is) in
    let low = at.low in
    (omega arith, (omega (arith, low, c.requires.places.lines), c.requires.places.stand))

pub is_before-requires-in-Merge : goal.is_before-requires-in-Merge
is_before-requires-in-Merge g c =
    let x = operation_net_on c.args.board.now in
    let at = merge_at_node x c.args.k c.in-Merge.piece c.in-Merge.line c.requires.node (sym c.name.ensures ∙ c.in-Merge.is) in
    let low = at.low in
    (omega arith, (omega (arith, low, c.requires.places.lines), c.requires.places.stand))

pub returns-in-Switch : goal.returns-in-Switch
returns-in-Switch g c =
    let x = operation_net_on c.args.board.now in
    let k = c.args.k in
    let piece = c.in-Switch.piece in
    let line = c.in-Switch.line in
    let m = standing c.args.places.now in
    let edges = c.args.places.now.edges.items in
    let switch = c.switch_number-switch.result in
    let named : operation_node x k ≡ Switch piece line = sym c.name.ensures ∙ c.in-Switch.is in
    let inside : switch < length edges = omega (arith, c.switch_number-switch.ensures.within, c.requires.places.edges) in
    let at : edge_at edges switch ≡ c.index.result.now = read_edge edges switch c.index.result.now inside c.index.ensures in
    let before : c.one_if-lacks_line.result ≡ one_if (not (is_before x.net m.tokens piece line)) = c.one_if-lacks_line.ensures ∙ ap (λ b. one_if (not b)) c.is_before.ensures in
    let left : c.one_if-lacks_edge.result ≡ one_if (not (is_some (left_for m.tokens (switch_number x.net piece line)))) =
    c.one_if-lacks_edge.ensures ∙ ap (λ b. one_if (not b)) (c.is_some.ensures ∙ ap is_some (sym at)) ∙ ap (λ n. one_if (not (is_some (edge_at edges n)))) (c.switch_number-switch.ensures.number line named) in
    ap (λ n. n + c.one_if-lacks_edge.result) before
    ∙ ap (λ n. one_if (not (is_before x.net m.tokens piece line)) + n) left
    ∙ ap (waits_as x m k) (sym named)
