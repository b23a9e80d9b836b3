use Rattle.indexmap.specs.IndexMap.{get}
use Rattle.f77_tree.specs.Places.{same_block}
use Rattle.unit_laws.proofs.ManyBlocks.{first-noted}
use Rattle.f77_subs.proofs.merged_blocks.note_parts.Goals as goal

pub loop-part-preserved : goal.loop-part-preserved
loop-part-preserved c = λ block.
    first-noted block c.args.parts.now c.loop-part.part-index c.args.k c.part-item.result (get same_block c.args.firsts.now block) (get same_block c.loop-part.firsts block) (get same_block c.note_block.new.firsts block)
    c.loop-part-test.true c.part-item.is (c.loop-part.invariant block) (c.in_ok-note_block.ensures block)
