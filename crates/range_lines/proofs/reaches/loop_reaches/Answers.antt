use Rattle.std.proofs.Common.{◌≡◌, ◌<◌, ◌*◌, ◌-◌, suc, length, ◌∙◌, length-set, arith}
use Rattle.class_set.specs.ClassSet.{holds}
use Rattle.range_lines.proofs.ReachLemmas.{reaches-next, writes-next}
use Rattle.range_lines.proofs.reaches.loop_reaches.Goals as goal

pub loop-k-preserved : goal.loop-k-preserved
loop-k-preserved g c =
    let p = c.args.p.now in
    let t = c.args.c.now in
    let k = c.loop-k.k - 1 in
    let kept = c.loop-k.invariant in
    let some = c.loop-k-test.true in
    let is : c.loop-k.k ≡ suc k = omega (arith, some) in
    let below = kept.inside in
    let inside : k < length p.execs = omega (arith, some, below) in
    let each = kept.each in
    record {
      inside = omega (arith, below);
      each = length-set c.loop-k.reaches.items k c.reach_from.result ∙ kept.each;
      all = c.note.ensures.all;
      right = reaches-next p t c.loop-k.reaches.items k c.reach_from.result (omega (arith, inside, each)) kept.each c.reach_from.ensures (λ j least lt. kept.right j (omega (arith, is, least)) lt);
      next = writes-next p t k c.loop-k.k (64 * g.row.W) c.at-exec.result.now (holds c.written.result) c.loop-k.next.items c.note.new.next.items is inside c.at-exec.ensures.item c.written.ensures kept.all c.note.ensures.all c.note.ensures.noted c.note.ensures.kept kept.next;
    }
