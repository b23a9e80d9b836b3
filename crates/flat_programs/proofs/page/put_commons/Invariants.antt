use Rattle.std.proofs.Common.{map}
use Rattle.std.specs.Prelude.{flat_map, slice_get}
use Rattle.std.specs.List.{range_with_len}
use Rattle.flat_programs.specs.Declarations.{common_at}
use Rattle.flat_programs.specs.Text.{unlabelled}
use Rattle.flat_programs.specs.Pages.{Grows}
use Rattle.flat_programs.proofs.page.put_commons.Given as goal

abbrev pub invariant-loop-k : goal.invariant-loop-k
invariant-loop-k l = Grows l.fn.page l.page (map unlabelled (flat_map (λ k. common_at l.parts k (slice_get l.parts k)) (range_with_len 0 l.k)))
