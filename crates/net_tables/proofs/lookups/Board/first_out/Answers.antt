use Rattle.std.proofs.Common.{◌≡◌, ◌<◌, ℕ, List, slice_index, subst, ap, sym, ◌∙◌}
use Rattle.closed_walks.specs.Graph.{edge_count}
use Rattle.cfg_build.specs.Passes.{out}
use Rattle.net_board.specs.Nodes.{graph_in}
use Rattle.net_tables.specs.LookupView.{net_on}
use Rattle.net_tables.proofs.LookupLemmas.{some_edge}
use Rattle.net_tables.proofs.TableLemmas.{out_exists}
use Rattle.net_tables.proofs.lookups.Board.first_out.Goals as goal

pub returns-clause-exists : goal.returns-clause-exists
returns-clause-exists g c =
    let net = net_on c.args.self.now in
    let is : c.out_at.result ≡ out (graph_in net) c.args.piece 0 = c.out_at.ensures ∙ ap (λ (es : List ℕ). slice_index es 0) c.outs.ensures in
    subst (λ e. e < edge_count (graph_in net)) (sym is) (out_exists (graph_in net) c.args.piece 0 (some_edge c.args.self.now.plan))
