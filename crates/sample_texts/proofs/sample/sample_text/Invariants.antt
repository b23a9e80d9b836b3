use Rattle.std.proofs.Common.{◌≡◌, ◌++◌}
use Rattle.sample_texts.specs.SampleText.{blocks_to, first_lines}
use Rattle.sample_texts.proofs.sample.sample_text.Given as goal

abbrev pub invariant-loop-block : goal.invariant-loop-block
invariant-loop-block l = l.text.items ≡ first_lines ++ blocks_to l.block
