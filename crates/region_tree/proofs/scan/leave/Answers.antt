use Rattle.std.proofs.Common.{◌≡◌, ◌<◌, ◌∙◌, length, get_or, sym, ap, subst}
use Rattle.closed_walks.specs.Graph.{from, to, edges_at}
use Rattle.closed_walks.specs.Walk.{Holds}
use Rattle.closed_walks.proofs.Held.{Holds-at}
use Rattle.region_tree.proofs.Scanning.{IsLeaving-skip, IsLeaving-take, IsFound, found}
use Rattle.region_tree.proofs.scan.leave.Goals as goal
use Rattle.region_tree.proofs.scan.leave.Goals.{then-from-node+in_ok-push+in_ok-find, else-from-node}

pub from-requires : goal.from-requires
from-requires c = ((c.edges_of_nodes.ensures.touch c.args.g.now c.args.node (get_or c.edges_at-e-items.result.now c.loop-e.e-index 0)).0 (subst (λ xs. Holds xs (get_or c.edges_at-e-items.result.now c.loop-e.e-index 0)) c.loop-e.invariant.items (Holds-at c.edges_at-e-items.result.now c.loop-e.e-index c.loop-e-test.true))).0

pub to-requires : goal.to-requires
to-requires c = ((c.edges_of_nodes.ensures.touch c.args.g.now c.args.node (get_or c.edges_at-e-items.result.now c.loop-e.e-index 0)).0 (subst (λ xs. Holds xs (get_or c.edges_at-e-items.result.now c.loop-e.e-index 0)) c.loop-e.invariant.items (Holds-at c.edges_at-e-items.result.now c.loop-e.e-index c.loop-e-test.true))).0

pub loop-e-preserved : goal.loop-e-preserved
loop-e-preserved c =
    let g = c.args.g.now in
    let node = c.args.node in
    let edges = c.edges_at-e-items.result.now in
    let k = c.loop-e.e-index in
    let seen = c.loop-e.seen.items in
    let order = c.loop-e.order.items in
    let items : edges ≡ edges_at g node = c.loop-e.invariant.items in
    let within : k < length (edges_at g node) = subst (λ xs. k < length xs) items c.loop-e-test.true in
    let same : get_or edges k 0 ≡ get_or (edges_at g node) k 0 = ap (λ xs. get_or xs k 0) items in
    record {
      items = items;
      leaving = elim c.if-from-node.branch [
        | then-from-node+in_ok-push+in_ok-find w ↦
            let ends : w.to.result ≡ to g (get_or (edges_at g node) k 0) = w.to.ensures.node ∙ ap (to g) same in
            rw (w.edges-is, w.seen-is, w.order-is, w.in_ok-push.ensures.items, same)
            (IsLeaving-take g node c.args.edges.now.items c.args.seen.now.items c.args.order.now.items k within c.loop-e.edges.items seen order c.loop-e.invariant.leaving w.find.new.seen.items w.find.new.order.items
            (ap (from g) (sym same) ∙ (sym c.from.ensures.node ∙ w.if-from-node.true))
            (subst (λ n. IsFound g n seen order w.find.new.seen.items w.find.new.order.items) ends
            (found g w.to.result seen order c.loop-e.invariant.leaving.order_is w.to.ensures.exists w.find.new.seen.items w.find.new.order.items w.in_ok-find.ensures)))
        | else-from-node w ↦
            rw (w.edges-is, w.seen-is, w.order-is)
            (IsLeaving-skip g node c.args.edges.now.items c.args.seen.now.items c.args.order.now.items k within c.loop-e.edges.items seen order c.loop-e.invariant.leaving
            (λ begins. w.if-from-node.false (c.from.ensures.node ∙ (ap (from g) same ∙ begins))))
      ];
    }
