use Rattle.std.proofs.Common.{◌<◌, ◌^◌, ap, ◌∙◌, subst, arith}
use Rattle.closed_walks.specs.Graph.{edge_count}
use Rattle.printed_laws.proofs.ShortLines.{one_more_short, all_short}
use Rattle.printed_laws.proofs.flows.flows_are_short.Goals as goal

pub loop-k-init : goal.loop-k-init
loop-k-init c = λ node lt. absurd (omega arith)

pub loop-k-preserved : goal.loop-k-preserved
loop-k-preserved c = one_more_short c.args.flow.now.pieces c.loop-k.k c.piece.result c.loop-k.invariant c.piece.ensures c.stays_short.ensures

pub returns : goal.returns
returns c =
    record {
      edges = subst (λ n. n < 2 ^ 32) (c.edges-edges.ensures.count ∙ ap edge_count c.graph.ensures) c.edges-edges.type_inv;
      lines = all_short c.args.flow.now.pieces c.loop-k.k c.pieces-k-end.result c.loop-k.invariant c.loop-k-test.false c.pieces-k-end.ensures.count;
    }
