use Rattle.std.proofs.Common.{◌≤◌, length, map, take}
use Rattle.flat_programs.specs.Declarations.{typed_name}
use Rattle.flat_programs.specs.Text.{unlabelled}
use Rattle.flat_programs.specs.Pages.{Grows}
use Rattle.flat_programs.proofs.page.put_names.Given as goal

abbrev pub invariant-loop-k : goal.invariant-loop-k
invariant-loop-k l = record {
  within : l.k ≤ length l.names;
  grows : Grows l.fn.page l.page (map unlabelled (map typed_name (take l.k l.names)));
}
