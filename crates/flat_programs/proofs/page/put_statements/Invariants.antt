use Rattle.std.proofs.Common.{◌≡◌, ◌+◌, ◌≤◌}
use Rattle.std.specs.Prelude.{flat_map}
use Rattle.std.specs.List.{range_with_len}
use Rattle.flat_programs.specs.Marks.{mark_at}
use Rattle.flat_programs.specs.Text.{typeset_at}
use Rattle.flat_programs.specs.Pages.{Grows}
use Rattle.flat_programs.proofs.page.put_statements.Given as goal

abbrev pub invariant-loop-k : goal.invariant-loop-k
invariant-loop-k l = record {
  number : l.number ≡ mark_at l.flat l.k;
  few : l.number ≤ l.k + 1;
  grows : Grows l.fn.page l.page (flat_map (typeset_at l.p.names l.flat) (range_with_len 0 l.k));
}
