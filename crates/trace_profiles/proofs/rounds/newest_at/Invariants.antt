use Rattle.std.proofs.Common.{◌≡◌, take}
use Rattle.trace_profiles.specs.Rounds.{greatest}
use Rattle.trace_profiles.specs.Tables.{rounds_at}
use Rattle.trace_profiles.proofs.rounds.newest_at.Given as goal

abbrev pub invariant-loop-place : goal.invariant-loop-place
invariant-loop-place l = l.newest ≡ greatest (rounds_at l.numbers (take l.place-index l.places))
