use Rattle.std.proofs.Common.{[], ◌∷◌, arith, length-append}
use Rattle.const_prop.specs.Kept.{excludes}
use Rattle.const_prop.specs.Table.{knowns_of}
use Rattle.const_prop.proofs.Counting.{answers-more}
use Rattle.const_prop.proofs.live.excluded_edges.Goals as goal

pub loop-e-preserved : goal.loop-e-preserved
loop-e-preserved g c =
    let old = c.loop-e.excluded.items in
    rw c.in_ok-push.ensures.items (record {
      size = omega (arith, length-append old (c.is_excluded.result ∷ []), c.loop-e.invariant.size);
      tells = answers-more old (λ e. excludes c.args.f.now (knowns_of c.args.t.now) e) c.loop-e.e c.is_excluded.result c.loop-e.invariant.size c.loop-e.invariant.tells c.is_excluded.ensures;
    })
