use Rattle.std.proofs.Common.{◌≡◌, ◌≤◌, length}
use Rattle.std.specs.Prelude.{flat_map, slice_get}
use Rattle.std.specs.List.{range_with_len}
use Rattle.flat_programs.specs.Declarations.{common_at}
use Rattle.flat_programs.proofs.declarations.block_count.Given as goal

abbrev pub invariant-loop-k : goal.invariant-loop-k
invariant-loop-k l = record {
  count : l.count ≡ length (flat_map (λ k. common_at l.parts k (slice_get l.parts k)) (range_with_len 0 l.k));
  few : l.count ≤ l.k;
}
