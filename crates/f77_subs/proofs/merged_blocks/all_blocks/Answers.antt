use Rattle.std.proofs.Common.{◌<◌, length, sym, arith}
use Rattle.std.proofs.lemmas.Option.{get_or_from_slice_get}
use Rattle.unit_laws.proofs.ManyBlocks.{all-more}
use Rattle.f77_subs.proofs.merged_blocks.all_blocks.Goals as goal

pub loop-k-preserved : goal.loop-k-preserved
loop-k-preserved c =
    let us = c.args.us.now in
    let k = c.loop-k.k in
    let u = c.at.result.now in
    let inside : k < length us = omega arith in
    all-more us k u c.loop-k.blocks c.add_all.new.self inside (sym (get_or_from_slice_get us k u u c.at.ensures.unit)) c.loop-k.invariant c.in_ok-add_all.ensures
