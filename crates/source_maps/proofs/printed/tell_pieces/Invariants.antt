use Rattle.std.proofs.Common.{◌≡◌, ℕ}
use Rattle.std.specs.Prelude.{if◌then◌else◌, nat_lt, option_map, slice_get}
use Rattle.source_maps.specs.Places.{map_of}
use Rattle.source_maps.specs.Told.{piece_told}
use Rattle.source_maps.proofs.printed.tell_pieces.Given as goal

abbrev pub invariant-loop-k : goal.invariant-loop-k
invariant-loop-k l = (i : ℕ) → slice_get l.pieces.items i ≡ (if nat_lt i l.k then option_map (piece_told (map_of l.source)) (slice_get l.fn.pieces.items i) else slice_get l.fn.pieces.items i)
