use Rattle.std.proofs.Common.{◌≡◌, ◌<◌, ◌∙◌, ◌∷◌, [], sym, ap, arith, ⊎_elim, length-append}
use Rattle.std.proofs.lemmas.Bool.{cases_eq}
use Rattle.std.proofs.lemmas.List.{get_or_append_left, get_or_push}
use Rattle.closed_walks.specs.Graph.{edge_count, to}
use Rattle.region_tree.specs.Tree.{innermost_of}
use Rattle.dep_routing.proofs.rows.regions_at_ends.Goals as goal

pub loop-e-preserved : goal.loop-e-preserved
loop-e-preserved c =
    let old = c.loop-e.regions.items in
    let r = c.innermost.result in
    let t = c.args.t.now in
    let graph = c.args.g.now in
    let is : r ≡ innermost_of t (to graph c.loop-e.e) = c.innermost.ensures ∙ ap (λ n. innermost_of t n) c.to.ensures.node in
    let longer = length-append old (r ∷ []) in
    rw c.in_ok-push.ensures.items record {
      size = omega (arith, longer, c.loop-e.invariant.size);
      told = λ k below. ⊎_elim
          (λ (same : k ≡ c.loop-e.e). get_or_push old r 0 k (c.loop-e.invariant.size ∙ sym same) ∙ is ∙ ap (λ e. innermost_of t (to graph e)) (sym same))
          (λ apart. let before : k < c.loop-e.e = omega (arith, below, apart) in
          get_or_append_left old (r ∷ []) 0 k (omega (arith, before, c.loop-e.invariant.size)) ∙ c.loop-e.invariant.told k before)
          (cases_eq k c.loop-e.e);
    }

pub returns-clause-count : goal.returns-clause-count
returns-clause-count c = omega (arith, c.loop-e.invariant.size, c.loop-e-test.false, c.loop-e.auto.e-end, c.edges-e-end.ensures.count)

pub returns-clause-each : goal.returns-clause-each
returns-clause-each c = λ e edge.
    let all : c.loop-e.e ≡ edge_count c.args.g.now = omega (arith, c.loop-e-test.false, c.loop-e.auto.e-end, c.edges-e-end.ensures.count) in
    c.loop-e.invariant.told e (omega (arith, edge, all))
