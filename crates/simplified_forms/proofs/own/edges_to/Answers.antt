use Rattle.std.proofs.Common.{◌≡◌, ◌-◌, ◌<◌, ◌==◌, ap, sym, ◌∙◌, arith}
use Rattle.std.proofs.lemmas.Bool.{eq-eqb}
use Rattle.closed_walks.specs.Graph.{edge_count, to}
use Rattle.std.specs.List.{range_with_len}
use Rattle.simplified_forms.proofs.FirstPlaces.{from-end, from-set, range-at}
use Rattle.simplified_forms.proofs.PieceLemmas.{not-equal}
use Rattle.simplified_forms.proofs.own.edges_to.Goals as goal

pub loop-e-init : goal.loop-e-init
loop-e-init c =
    let g = c.args.f.now.graph in
    from-end (λ node e. to g e == node) (edge_count g) g.nodes c.edges-e.result c.edges.result c.pieces.result c.in_ok-edges.edges.items (c.in_ok-edges.ensures.items_if_clones_equal (λ y same. same))
    (c.edges.ensures.count ∙ ap edge_count c.graph-g.ensures)
    c.pieces.ensures.nodes
    (c.edges-e.ensures.count ∙ ap edge_count c.graph-g.ensures)

pub loop-e-preserved : goal.loop-e-preserved
loop-e-preserved c =
    let g = c.args.f.now.graph in
    let i = c.loop-e.e in
    let node : c.to.result ≡ to g (i - 1) = c.to.ensures.node ∙ ap (λ h. to h (i - 1)) c.graph-g.ensures in
    let some = c.loop-e-test.true in
    let end = c.loop-e.auto.e in
    let count = c.edges-e.ensures.count ∙ ap edge_count c.graph-g.ensures in
    let inside : i - 1 < edge_count g = omega (arith, some, end, count) in
    from-set (λ node e. to g e == node) (range_with_len 0 (edge_count g)) g.nodes i c.to.result (i - 1) c.loop-e.edges.items some c.loop-e.invariant
    (range-at (edge_count g) (i - 1) inside)
    (eq-eqb (to g (i - 1)) c.to.result (sym node))
    (λ k ne. not-equal (to g (i - 1)) k (λ e. ne (e ∙ sym node)))
