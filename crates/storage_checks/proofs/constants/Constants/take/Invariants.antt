use Rattle.std.proofs.Common.{◌≡◌, length, drop}
use Rattle.storage_checks.specs.Runs.{all_constants}
use Rattle.storage_checks.proofs.constants.Constants.take.Given as goal

abbrev pub invariant-loop-first : goal.invariant-loop-first
invariant-loop-first l = drop l.self-inside.taken (all_constants l.self-inside.values.now) ≡ drop l.initial.self-inside.taken (all_constants l.initial.self-inside.values.now)

abbrev pub decreases-loop-first : goal.decreases-loop-first
decreases-loop-first l = length l.self-inside.values.now
