use Rattle.std.proofs.Common.{◌≡◌, take, length}
use Rattle.trace_profiles.specs.Tables.{IsRaised, is_line}
use Rattle.trace_profiles.proofs.rounds.raise_at.Given as goal

abbrev pub invariant-loop-place : goal.invariant-loop-place
invariant-loop-place l = record {
  raised : IsRaised l.initial.numbers.items l.numbers.items (is_line (take l.place-index l.places)) l.n;
  count : length l.numbers.items ≡ length l.initial.numbers.items;
}
