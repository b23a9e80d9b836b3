use Rattle.std.proofs.Common.{◌≡◌, ◌<◌, ℕ, [], drop, length, slice_index}
use Rattle.trace_profiles.specs.Rounds.{operands_in}
use Rattle.trace_profiles.specs.Tables.{operands_by}
use Rattle.trace_profiles.proofs.rounds.places_of_operands.Given as goal

abbrev pub invariant-loop-value : goal.invariant-loop-value
invariant-loop-value l = record {
  count : length l.places.items ≡ l.nodes;
  place : l.place ≡ l.value-index;
  told : (k : ℕ) → k < l.nodes → operands_in (drop l.value-index l.values) k (operands_by (slice_index l.places.items k) l.values) ≡ operands_in l.values k [];
}
