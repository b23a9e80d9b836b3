use Rattle.std.proofs.Common.{◌<◌, length, arith, ◌∙◌, sym}
use Rattle.dep_routing.proofs.Noises.{IsAdding-step, lacking-less, marked-read}
use Rattle.dep_routing.proofs.noise.add_up.Goals as goal

pub loop-r-smaller : goal.loop-r-smaller
loop-r-smaller g c =
    let sets = c.loop-r.sets.items in
    let inside : c.loop-r.r < length sets = omega (arith, c.loop-r.invariant.size, c.loop-r.invariant.within, c.requires.size) in
    let lack = c.has_all.ensures.lacks c.if-not-has_all.true in
    lacking-less sets c.loop-r.r c.args.lines.now c.index-in-loop-r.result.now c.union.result inside c.index-in-loop-r.ensures c.union.ensures lack.0 lack.1 lack.2
    (sym (marked-read sets lack.0 c.loop-r.r c.index-in-loop-r.result.now inside c.index-in-loop-r.ensures) ∙ (marked-read sets lack.0 c.loop-r.r c.index.result.now inside c.index.ensures ∙ lack.3))

pub loop-r-preserved : goal.loop-r-preserved
loop-r-preserved g c =
    let inside : c.loop-r.r < length c.loop-r.sets.items = omega (arith, c.loop-r.invariant.size, c.loop-r.invariant.within, c.requires.size) in
    rw c.parent-r.ensures
    (IsAdding-step c.args.t.now c.args.region c.args.lines.now c.loop-r.r c.args.sets.now.items c.loop-r.sets.items c.loop-r.invariant c.requires.parents (omega (arith, c.loop-r-test.true)) inside
    c.index-in-loop-r.result.now c.union.result c.index-in-loop-r.ensures c.union.ensures)
