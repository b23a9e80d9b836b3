use Rattle.std.proofs.Common.{sym, ap, subst, ◌∙◌, arith}
use Rattle.closed_walks.specs.Graph.{IsGraph, edge_count}
use Rattle.simplified_forms.proofs.PieceLemmas.{no-edge}
use Rattle.simplified_forms.proofs.plan.edge_to.Goals as goal

pub returns-else-piece-pieces : goal.returns-else-piece-pieces
returns-else-piece-pieces c =
    let g = c.args.f.now.graph in
    let sound = subst IsGraph c.graph.ensures c.edges.ensures.sound in
    c.edges.ensures.count ∙ ap edge_count c.graph.ensures ∙ sym (no-edge g c.args.piece sound (omega arith))
