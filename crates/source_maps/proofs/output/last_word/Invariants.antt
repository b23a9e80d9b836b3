use Rattle.std.proofs.Common.{◌≡◌, length}
use Rattle.source_maps.specs.Outputs.{after_blank}
use Rattle.source_maps.proofs.output.last_word.Given as goal

abbrev pub invariant-loop-rest : goal.invariant-loop-rest
invariant-loop-rest l = after_blank l.word l.rest ≡ after_blank l.text l.text

abbrev pub decreases-loop-rest : goal.decreases-loop-rest
decreases-loop-rest l = length l.rest
