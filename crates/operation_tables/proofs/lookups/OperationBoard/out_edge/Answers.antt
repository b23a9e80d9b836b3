use Rattle.std.proofs.Common.{◌≡◌, ◌<◌, ℕ, List, slice_index, subst, ap, sym, ◌∙◌}
use Rattle.closed_walks.specs.Graph.{edge_count}
use Rattle.cfg_build.specs.Passes.{out}
use Rattle.net_board.specs.Nodes.{graph_in}
use Rattle.net_tables.proofs.LookupLemmas.{some_edge}
use Rattle.net_tables.proofs.TableLemmas.{out_exists}
use Rattle.operation_tables.specs.BoardView.{operation_net_on}
use Rattle.operation_tables.proofs.lookups.OperationBoard.out_edge.Goals as goal

pub returns-clause-exists : goal.returns-clause-exists
returns-clause-exists g c =
    let graph = graph_in (operation_net_on c.args.self.now).net in
    let is : c.out_at.result ≡ out graph c.args.piece c.args.choice = c.out_at.ensures ∙ ap (λ (es : List ℕ). slice_index es c.args.choice) c.outs.ensures in
    subst (λ e. e < edge_count graph) (sym is) (out_exists graph c.args.piece c.args.choice (some_edge c.args.self.now.plan.board.plan))
