use Rattle.std.proofs.Common.{ℕ, Some, subst, sym, arith}
use Rattle.op_board.specs.OperationNets.{operation_node}
use Rattle.operation_tables.specs.BoardView.{operation_net_on}
use Rattle.operation_places.specs.Turns.{is_turn}
use Rattle.operation_tables.specs.Waits.{IsNodeBefore, node_total}
use Rattle.operation_places.proofs.TurnNodes.{IsLookedUp, before_none, before_turn, chosen_low}
use Rattle.operation_places.proofs.standing.turn_of.Goals as goal

pub returns-then-k-nodes-clause-before : goal.returns-then-k-nodes-clause-before
returns-then-k-nodes-clause-before g c = λ edge passed leads.
    let board = c.args.board.now in
    let x = operation_net_on board in
    let up : IsLookedUp x c.args.piece c.args.line c.place.result c.numbered_from_end-k.result = record { place = c.place.ensures; node = c.numbered_from_end-k.ensures.node } in
    before_turn x board.plan.facts c.args.piece c.args.line edge passed c.place.result c.numbered_from_end-k.result c.if_turn.result up c.requires.untouched leads (omega (arith, c.if-k-nodes.true, c.nodes-nodes.ensures)) c.if_turn.ensures

pub returns-then-k-nodes-clause-within : goal.returns-then-k-nodes-clause-within
returns-then-k-nodes-clause-within g c =
    let x = operation_net_on c.args.board.now in
    chosen_low (is_turn (operation_node x c.numbered_from_end-k.result) c.args.piece c.args.line) c.numbered_from_end-k.result (node_total x) c.if_turn.result (omega (arith, c.if-k-nodes.true, c.nodes-nodes.ensures)) c.if_turn.ensures

pub returns-else-k-nodes-clause-before : goal.returns-else-k-nodes-clause-before
returns-else-k-nodes-clause-before g c = λ edge passed leads.
    let board = c.args.board.now in
    let x = operation_net_on board in
    let up : IsLookedUp x c.args.piece c.args.line c.place.result c.numbered_from_end-k.result = record { place = c.place.ensures; node = c.numbered_from_end-k.ensures.node } in
    subst (λ (k : ℕ). IsNodeBefore x c.args.line (Some edge) passed k) (sym c.nodes-nodes.ensures)
    (before_none x board.plan.facts c.args.piece c.args.line edge passed c.place.result c.numbered_from_end-k.result up c.requires.untouched leads (omega (arith, c.if-k-nodes.false, c.nodes-nodes.ensures)))
