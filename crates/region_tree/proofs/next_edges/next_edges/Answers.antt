use Rattle.std.proofs.Common.{◌≡◌, ◌-◌, ◌<◌, ◌∷◌, ◌∙◌, suc, length, get_or, drop, ap, arith, None, drop-cons}
use Rattle.std.proofs.lemmas.List.{get_or_read}
use Rattle.closed_walks.proofs.Held.{Holds-at}
use Rattle.region_tree.proofs.NextEdges.{IsLinked-step}
use Rattle.region_tree.proofs.next_edges.next_edges.Goals as goal

pub bounds-classes-e : goal.bounds-classes-e
bounds-classes-e c = c.requires.exist (get_or c.args.edges.now (c.loop-k.k - 1) 0) (Holds-at c.args.edges.now (c.loop-k.k - 1) (omega arith))

pub index-requires : goal.index-requires
index-requires c = omega (arith, c.requires.below (get_or c.args.edges.now (c.loop-k.k - 1) 0) (c.requires.exist (get_or c.args.edges.now (c.loop-k.k - 1) 0) (Holds-at c.args.edges.now (c.loop-k.k - 1) (omega arith))), c.loop-k.invariant.first_size)

pub index_mut-requires : goal.index_mut-requires
index_mut-requires c = omega (arith, c.requires.exist (get_or c.args.edges.now (c.loop-k.k - 1) 0) (Holds-at c.args.edges.now (c.loop-k.k - 1) (omega arith)), c.loop-k.invariant.next_size)

pub index_mut-requires-in-loop-k : goal.index_mut-requires-in-loop-k
index_mut-requires-in-loop-k c = omega (arith, c.requires.below (get_or c.args.edges.now (c.loop-k.k - 1) 0) (c.requires.exist (get_or c.args.edges.now (c.loop-k.k - 1) 0) (Holds-at c.args.edges.now (c.loop-k.k - 1) (omega arith))), c.loop-k.invariant.first_size)

pub loop-k-preserved : goal.loop-k-preserved
loop-k-preserved c =
    let classes = c.args.classes.now in
    let edges = c.args.edges.now in
    let k = c.loop-k.k in
    let e = get_or edges (k - 1) 0 in
    let first = c.loop-k.first.items in
    let within : k - 1 < length edges = omega arith in
    let edge : e < length classes = c.requires.exist e (Holds-at edges (k - 1) within) in
    let below : get_or classes e 0 < length classes = c.requires.below e edge in
    let next : suc (k - 1) ≡ k = omega arith in
    let parts : drop (k - 1) edges ≡ e ∷ drop k edges = drop-cons edges (k - 1) 0 within ∙ ap (λ n. e ∷ drop n edges) next in
    let read : c.index.result.now ≡ get_or first (get_or classes e 0) None = get_or_read first (get_or classes e 0) c.index.result.now (omega (arith, below, c.loop-k.invariant.first_size)) c.index.ensures None in
    rw (parts, read) (IsLinked-step classes (drop k edges) first c.loop-k.next.items e c.loop-k.invariant edge below)
