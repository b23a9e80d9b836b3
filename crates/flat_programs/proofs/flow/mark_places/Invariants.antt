use Rattle.std.proofs.Common.{◌≡◌, take, filter, length}
use Rattle.std.specs.Prelude.{slice_get}
use Rattle.std.specs.List.{range_with_len, count_by}
use Rattle.flat_programs.specs.Marks.{is_mark, is_mark_in}
use Rattle.flat_programs.proofs.flow.mark_places.Given as goal

abbrev pub invariant-loop-place : goal.invariant-loop-place
invariant-loop-place l = record {
  marks : l.marks.items ≡ filter (λ place. is_mark_in (slice_get l.flat place)) (range_with_len 0 l.place);
  count : length l.marks.items ≡ count_by (λ s. is_mark s.stmt) (take l.place l.flat);
}
