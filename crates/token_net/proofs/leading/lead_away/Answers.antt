use Rattle.std.proofs.Common.{ℕ, List, Some, ap, ◌∙◌}
use Rattle.net_board.specs.Tokens.{with_all}
use Rattle.net_tables.specs.LookupView.{net_on}
use Rattle.token_net.proofs.ActLemmas.{switches_are}
use Rattle.token_net.proofs.leading.lead_away.Goals as goal

pub returns-clause-edges : goal.returns-clause-edges
returns-clause-edges g c =
    c.leave.ensures.edges ∙ ap (λ (row : List ℕ). with_all c.args.edges.now.items row (λ (k : ℕ). Some c.args.edge)) (switches_are (net_on c.args.board.now) c.args.piece c.first-first.result c.end-end.result c.requires.acts c.first-first.ensures c.end-end.ensures.end)
