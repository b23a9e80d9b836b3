use Rattle.sample_texts.specs.SampleText.{first_lines}
use Rattle.sample_texts.proofs.Joined.{block_next}
use Rattle.sample_texts.proofs.sample.sample_text.Goals as goal

pub loop-block-preserved : goal.loop-block-preserved
loop-block-preserved c = block_next first_lines c.loop-block.text.items c.append_block.new.out.items c.loop-block.block c.loop-block.invariant c.in_ok-append_block.ensures
