use Rattle.std.proofs.Common.{◌<◌, length, arith}
use Rattle.indexmap.specs.IndexMap.{get}
use Rattle.f77_tree.specs.Places.{same_block}
use Rattle.unit_laws.proofs.ManyBlocks.{first-next}
use Rattle.f77_subs.proofs.merged_blocks.first_units.Goals as goal

pub loop-k-preserved : goal.loop-k-preserved
loop-k-preserved c = λ block.
    let inside : c.loop-k.k < length c.args.us.now = omega arith in
    first-next block c.args.us.now c.loop-k.k c.at.result.now (get same_block c.loop-k.firsts block) (get same_block c.note_unit.new.firsts block)
    inside c.at.ensures.unit (c.loop-k.invariant block) (c.in_ok-note_unit.ensures block)
