use Rattle.std.proofs.Common.{arith}
use Rattle.graph_texts.proofs.Texts.{fresh_next}
use Rattle.graph_jobs.proofs.regions.class_count.Goals.{then-count-next, else-count-next}
use Rattle.graph_jobs.proofs.regions.class_count.Goals as goal

pub loop-class-preserved : goal.loop-class-preserved
loop-class-preserved c =
    let next = fresh_next c.args.classes.now c.loop-class.class-index c.loop-class.count c.loop-class-test.true c.loop-class.invariant in
    elim c.if-count-next.branch [
      | then-count-next w ↦ omega (arith, next, w.if-count-next, w.count-is, c.from-next.ensures)
      | else-count-next w ↦ omega (arith, next, w.if-count-next, w.count-is, c.from-next.ensures)
    ]
