use Rattle.std.proofs.Common.{◌≡◌, drop}
use Rattle.std.specs.Prelude.{zip}
use Rattle.std.specs.List.{flat_map}
use Rattle.storage_checks.specs.Runs.{span_words, all_constants}
use Rattle.storage_checks.specs.Writing.{written}
use Rattle.storage_checks.proofs.initial.write_spans.Given as goal

abbrev pub invariant-loop-span : goal.invariant-loop-span
invariant-loop-span l = written l.cells (zip (flat_map span_words (drop l.span-index l.spans)) l.constants) ≡ written l.initial.cells (zip (flat_map span_words l.spans) (all_constants l.values))
