use Rattle.std.proofs.Common.{◌≡◌, ◌<◌, sym, ap, subst, ◌∙◌}
use mathlib.Core.Logic.{∥∥₁_elim}
use Rattle.std.proofs.Props.{props}
use Rattle.closed_walks.specs.Graph.{edge_count}
use Rattle.cfg_build.specs.Passes.{out}
use Rattle.net_board.specs.Nodes.{graph_in}
use Rattle.net_tables.proofs.LookupLemmas.{some_edge}
use Rattle.net_tables.proofs.TableLemmas.{out_exists}
use Rattle.operation_tables.specs.BoardView.{operation_net_on}
use Rattle.operation_tables.specs.OperationRows.{IsRow}
use Rattle.op_net.proofs.operating.chosen_edge.Goals as goal

pub returns-then-choice-eq0-clause-edge : goal.returns-then-choice-eq0-clause-edge
returns-then-choice-eq0-clause-edge g c =
    let x = operation_net_on c.args.board.now in
    let first : c.args.row.now.edge ≡ out (graph_in x.net) c.args.piece 0 = ∥∥₁_elim c.requires.row (hlevel props) (λ (row : IsRow x c.args.piece c.args.i c.args.row.now). row.edge) in
    first ∙ ap (out (graph_in x.net) c.args.piece) (sym c.if-choice-eq0.true)

pub returns-then-choice-eq0-clause-exists : goal.returns-then-choice-eq0-clause-exists
returns-then-choice-eq0-clause-exists g c =
    let x = operation_net_on c.args.board.now in
    let first : c.args.row.now.edge ≡ out (graph_in x.net) c.args.piece 0 = ∥∥₁_elim c.requires.row (hlevel props) (λ (row : IsRow x c.args.piece c.args.i c.args.row.now). row.edge) in
    subst (λ e. e < edge_count (graph_in x.net)) (sym first) (out_exists (graph_in x.net) c.args.piece 0 (some_edge c.args.board.now.plan.board.plan))
