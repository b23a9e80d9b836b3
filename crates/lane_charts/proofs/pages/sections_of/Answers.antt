use Rattle.std.proofs.Common.{◌≡◌, ◌+◌, ◌∙◌, suc, [], ◌∷◌, ◌++◌, ap, arith, get_or, sym, take}
use Rattle.std.proofs.Math.Seq.{take-suc}
use Rattle.std.proofs.lemmas.List.{get_or_read}
use Rattle.lane_charts.proofs.MoreSections.{one_more}
use Rattle.lane_charts.proofs.pages.sections_of.Goals as goal

pub loop-run-preserved : goal.loop-run-preserved
loop-run-preserved c =
    let runs = c.args.runs.now in
    let i = c.loop-run.run-index in
    let x = c.run-item.result in
    let is : x ≡ get_or runs i x = get_or_read runs i x c.loop-run-test.true c.run-item.is x in
    let next : i + 1 ≡ suc i = omega arith in
    let longer : take (i + 1) runs ≡ take i runs ++ x ∷ [] = ap (λ n. take n runs) next ∙ take-suc runs i x c.loop-run-test.true ∙ ap (λ y. take i runs ++ y ∷ []) (sym is) in
    rw (c.in_ok-push.ensures.items, longer) (one_more c.args.graph.now c.args.chart.now (take i runs) c.loop-run.sections.items x _ c.loop-run.invariant c.in_ok-section_of.ensures)
