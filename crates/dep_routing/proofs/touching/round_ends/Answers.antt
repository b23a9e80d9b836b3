use Rattle.std.proofs.Common.{◌≡◌, length, ap, sym, ◌∙◌, rules, arith}
use Rattle.closed_walks.specs.Graph.{edge_count}
use Rattle.cfg_build.specs.Joined.{FlowGraph}
use Rattle.dep_routing.specs.Touches.{ends_rounds}
use Rattle.dep_routing.proofs.PieceTouches.{ends-zero, ends-other, edge-more}
use Rattle.dep_routing.proofs.touching.round_ends.Goals as goal
use Rattle.dep_routing.proofs.touching.round_ends.Goals.{then-e-eq0, else-e-eq0}

pub loop-e-preserved : goal.loop-e-preserved
loop-e-preserved c =
    let p = c.args.p.now in
    let e = c.loop-e.e in
    let value : c.if-e-eq0.value ≡ ends_rounds p e = elim c.if-e-eq0.branch [
      | then-e-eq0 w ↦ ends-zero p e c.if-e-eq0.value w.if-e-eq0.true w.value-is
      | else-e-eq0 w ↦ ends-other p c.args.f.now w.graph-else-e-eq0.result.now e w.from.result c.if-e-eq0.value w.is_increment.result c.requires.flow w.graph-else-e-eq0.ensures w.if-e-eq0.false w.from.ensures.node w.is_increment.ensures w.value-is
    ] in
    let count = c.loop-e.invariant.count in
    let edges : c.edges-e-end.result ≡ length c.loop-e.ends.items = c.edges-e-end.ensures.count ∙ ap edge_count c.graph-2.ensures ∙ ap (λ (f : FlowGraph). edge_count f.graph) c.requires.flow ∙ sym count in
    let test = c.loop-e-test.true in
    record {
      count = search rules;
      each = edge-more p c.loop-e.ends.items e c.if-e-eq0.value (omega (arith, test, edges)) value c.loop-e.invariant.each;
    }
