use Rattle.layout_rules.specs.Appearances.{with_name}
use Rattle.program_units.specs.Names.{option_names}
use Rattle.entity_names.proofs.PutLists.{fold-more}
use Rattle.entity_names.proofs.used_names.note_parts.Goals as goal

pub loop-part-preserved : goal.loop-part-preserved
loop-part-preserved c =
    fold-more with_name (λ part. option_names part.block) c.args.parts.now c.loop-part.part-index c.part-item.result c.args.used.now c.loop-part.used c.note_block.new.used c.loop-part-test.true c.part-item.is c.loop-part.invariant c.in_ok-note_block.ensures
