use Rattle.std.proofs.Common.{◌≡◌, ◌<◌, ℕ, suc, length, slice_index, take}
use Rattle.trace_profiles.specs.Profiles.{width_of}
use Rattle.trace_profiles.specs.Rounds.{greatest}
use Rattle.trace_profiles.proofs.profile.widths.Given as goal

abbrev pub invariant-loop-round : goal.invariant-loop-round
invariant-loop-round l = record {
  count : length l.widths.items ≡ greatest l.rounds;
  counted : (i : ℕ) → i < greatest l.rounds → slice_index l.widths.items i ≡ width_of (take l.round-index l.rounds) (suc i);
}
