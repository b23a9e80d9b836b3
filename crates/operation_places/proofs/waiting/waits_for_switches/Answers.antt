use Rattle.std.proofs.Common.{ℕ, not, is_some, if◌then◌else◌, sym, ap, ◌∙◌}
use Rattle.net_board.specs.Nodes.{switches}
use Rattle.net_board.specs.TokenEdges.{edge_at}
use Rattle.operation_tables.specs.BoardView.{operation_net_on}
use Rattle.operation_tables.specs.Waits.{failing}
use Rattle.operation_places.proofs.RowWaits.{switches_are}
use Rattle.operation_places.proofs.waiting.waits_for_switches.Goals as goal

pub returns-then-decides : goal.returns-then-decides
returns-then-decides g c =
    let x = operation_net_on c.args.board.now in
    let test = λ (k : ℕ). not (is_some (edge_at c.args.places.now.edges.items k)) in
    c.edges_between.ensures
    ∙ ap (failing test) (switches_are x c.args.piece c.first-first.result c.end.result c.requires.acts c.first-first.ensures c.end.ensures.end)
    ∙ sym (ap (λ b. if b then failing test (switches x.net c.args.piece) else 0) c.if-decides.true)
