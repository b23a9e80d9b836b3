use Rattle.std.proofs.Common.{◌≡◌, ℕ, ◌<◌, ◌≤◌}
use Rattle.std.specs.Prelude.{slice_get}
use Rattle.source_maps.specs.Places.{map_of}
use Rattle.source_maps.specs.Told.{AreBoth, TellsTokenLine}
use Rattle.source_maps.proofs.printed.tell_token_lines.Given as goal

abbrev pub invariant-loop-k : goal.invariant-loop-k
invariant-loop-k l = ((i : ℕ) → i < l.k → AreBoth (TellsTokenLine (map_of l.source)) (slice_get l.fn.token_lines.items i) (slice_get l.token_lines.items i)) × ((i : ℕ) → l.k ≤ i → slice_get l.token_lines.items i ≡ slice_get l.fn.token_lines.items i)
