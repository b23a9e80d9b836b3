use Rattle.std.proofs.Common.{◌<◌, ◌∙◌, ap, sym, get_or, length, arith}
use Rattle.std.proofs.lemmas.Bool.{false≢true}
use Rattle.closed_walks.specs.Search.{is_visited}
use Rattle.closed_walks.proofs.Touching.{edge_exists}
use Rattle.closed_walks.proofs.Searches.{IsVisiting-begin, IsVisiting-skip, IsVisiting-visit, is_visited-read}
use Rattle.closed_walks.proofs.search.visit_next.Goals as goal
use Rattle.closed_walks.proofs.search.visit_next.Goals.{then-from-node+then-e-without+then-not-index+in_ok-push, else-from-node, else-from-node-via-then-from-node+then-e-without+else-not-index, else-from-node-via-then-from-node+else-e-without, else-from-node-via-else-from-node}

pub loop-e-init : goal.loop-e-init
loop-e-init c = record {
  edges = c.edges_at-e-items.ensures;
  visiting = rw c.edges_at-e-items.ensures (IsVisiting-begin c.args.g.now c.args.without c.args.node c.args.visited.now.items c.args.frontier.now.items c.requires.leaves);
}

pub to-to-requires : goal.to-to-requires
to-to-requires c = edge_exists c.args.g.now c.args.node c.edges_at-e-items.result.now c.loop-e.e-index c.loop-e.invariant.edges c.loop-e-test.true

pub from-requires : goal.from-requires
from-requires c = edge_exists c.args.g.now c.args.node c.edges_at-e-items.result.now c.loop-e.e-index c.loop-e.invariant.edges c.loop-e-test.true

pub loop-e-preserved : goal.loop-e-preserved
loop-e-preserved c =
    let g = c.args.g.now in
    let edges = c.edges_at-e-items.result.now in
    let k = c.loop-e.e-index in
    let e = get_or edges k 0 in
    let visited = c.loop-e.visited.items in
    let frontier = c.loop-e.frontier.items in
    let n = c.to-to.result in
    let inside : n < length visited = omega (arith, c.to-to.ensures.exists, c.loop-e.invariant.visiting.leaves.nodes) in
    record {
      edges = c.loop-e.invariant.edges;
      visiting = elim c.if-from-node.branch [
        | then-from-node+then-e-without+then-not-index+in_ok-push w ↦
            rw (w.visited-is, w.frontier-is, w.in_ok-push.ensures.items)
            (IsVisiting-visit g c.args.without c.args.node c.args.visited.now.items c.args.frontier.now.items edges k c.loop-e-test.true visited frontier c.loop-e.invariant.visiting n
            (edge_exists g c.args.node edges k c.loop-e.invariant.edges c.loop-e-test.true)
            (sym c.from.ensures.node ∙ w.if-from-node.true)
            w.if-e-without.true c.to-to.ensures.node inside
            (is_visited-read visited n w.index.result.now inside w.index.ensures ∙ w.if-not-index.true))
        | else-from-node w ↦
            rw (w.visited-is, w.frontier-is)
            (IsVisiting-skip g c.args.without c.args.node c.args.visited.now.items c.args.frontier.now.items edges k c.loop-e-test.true visited frontier c.loop-e.invariant.visiting
            (λ begins other blank. elim w.else-from-node.branch [
              | else-from-node-via-then-from-node+then-e-without+else-not-index x ↦ false≢true (sym blank ∙ (ap (is_visited visited) (sym c.to-to.ensures.node) ∙ (is_visited-read visited n x.index.result.now inside x.index.ensures ∙ x.if-not-index.false)))
              | else-from-node-via-then-from-node+else-e-without x ↦ other x.if-e-without.false
              | else-from-node-via-else-from-node x ↦ x.if-from-node.false (c.from.ensures.node ∙ begins)
            ]))
      ];
    }
