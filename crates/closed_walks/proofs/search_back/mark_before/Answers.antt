use Rattle.std.proofs.Common.{◌≡◌, ◌<◌, ◌∙◌, true, ap, sym, get_or, length, arith, length-set}
use Rattle.std.proofs.lemmas.Bool.{false≢true}
use Rattle.closed_walks.specs.Graph.{edge_count, from, to}
use Rattle.closed_walks.specs.Search.{is_visited}
use Rattle.closed_walks.specs.Reversed.{turned}
use Rattle.closed_walks.proofs.Touching.{edge_exists}
use Rattle.closed_walks.proofs.Turning.{from-turned, to-turned, edge_count-turned, edges_at-turned, nodes-turned}
use Rattle.closed_walks.proofs.Searches.{IsVisiting-begin, IsVisiting-skip, IsVisiting-visit, is_visited-read}
use Rattle.closed_walks.proofs.search_back.mark_before.Goals as goal
use Rattle.closed_walks.proofs.search_back.mark_before.Goals.{then-to-node+then-not-index+in_ok-push, else-to-node, else-to-node-via-then-to-node+else-not-index, else-to-node-via-else-to-node}

pub loop-e-init : goal.loop-e-init
loop-e-init c =
    grind (arith, edges_at-turned c.args.g.now c.args.node, IsVisiting-begin (turned c.args.g.now) (edge_count c.args.g.now) c.args.node c.args.marks.now.items c.args.frontier.now.items c.requires.leaves)

pub from-from-requires : goal.from-from-requires
from-from-requires c = edge_exists c.args.g.now c.args.node c.edges_at-e-items.result.now c.loop-e.e-index c.loop-e.invariant.edges c.loop-e-test.true

pub to-requires : goal.to-requires
to-requires c = edge_exists c.args.g.now c.args.node c.edges_at-e-items.result.now c.loop-e.e-index c.loop-e.invariant.edges c.loop-e-test.true

pub loop-e-preserved : goal.loop-e-preserved
loop-e-preserved c =
    let g = c.args.g.now in
    let edges = c.edges_at-e-items.result.now in
    let k = c.loop-e.e-index in
    let e = get_or edges k 0 in
    let marks = c.loop-e.marks.items in
    let frontier = c.loop-e.frontier.items in
    let n = c.from-from.result in
    let edge : e < edge_count g = edge_exists g c.args.node edges k c.loop-e.invariant.edges c.loop-e-test.true in
    let some : e < edge_count (turned g) = rw (edge_count-turned g) edge in
    let begins : n ≡ to (turned g) e = c.from-from.ensures.node ∙ sym (to-turned g e) in
    let ends : c.to.result ≡ from (turned g) e = c.to.ensures.node ∙ sym (from-turned g e) in
    let inside : n < length marks = omega (arith, c.from-from.ensures.exists, c.loop-e.invariant.visiting.leaves.nodes, nodes-turned g) in
    elim c.if-to-node.branch [
      | then-to-node+then-not-index+in_ok-push w ↦ record {
        edges = c.loop-e.invariant.edges;
        visiting =
            rw (w.marks-is, w.frontier-is, w.in_ok-push.ensures.items)
            (IsVisiting-visit (turned g) (edge_count g) c.args.node c.args.marks.now.items c.args.frontier.now.items edges k c.loop-e-test.true marks frontier c.loop-e.invariant.visiting n
            some
            (sym ends ∙ w.if-to-node.true)
            (λ same. absurd (omega (arith, same, edge))) begins inside
            (is_visited-read marks n w.index.result.now inside w.index.ensures ∙ w.if-not-index.true));
        nodes = rw w.marks-is (length-set marks n true ∙ c.loop-e.invariant.nodes);
      }
      | else-to-node w ↦ record {
        edges = c.loop-e.invariant.edges;
        visiting =
            rw (w.marks-is, w.frontier-is)
            (IsVisiting-skip (turned g) (edge_count g) c.args.node c.args.marks.now.items c.args.frontier.now.items edges k c.loop-e-test.true marks frontier c.loop-e.invariant.visiting
            (λ here other blank. elim w.else-to-node.branch [
              | else-to-node-via-then-to-node+else-not-index x ↦ false≢true (sym blank ∙ (ap (is_visited marks) (sym begins) ∙ (is_visited-read marks n x.index.result.now inside x.index.ensures ∙ x.if-not-index.false)))
              | else-to-node-via-else-to-node x ↦ x.if-to-node.false (ends ∙ here)
            ]));
        nodes = rw w.marks-is c.loop-e.invariant.nodes;
      }
    ]

pub index-requires : goal.index-requires
index-requires c = omega (arith, c.from-from.ensures.exists, c.loop-e.invariant.visiting.leaves.nodes, nodes-turned c.args.g.now)

pub index_mut-requires : goal.index_mut-requires
index_mut-requires c = omega (arith, c.from-from.ensures.exists, c.loop-e.invariant.visiting.leaves.nodes, nodes-turned c.args.g.now)
