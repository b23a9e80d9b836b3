use Rattle.std.proofs.Common.{◌≤◌, length, map, take}
use Rattle.flat_programs.specs.Declarations.{group_statement}
use Rattle.flat_programs.specs.Text.{unlabelled}
use Rattle.flat_programs.specs.Pages.{Grows}
use Rattle.flat_programs.proofs.page.put_groups.Given as goal

abbrev pub invariant-loop-k : goal.invariant-loop-k
invariant-loop-k l = record {
  within : l.k ≤ length l.groups;
  grows : Grows l.fn.page l.page (map unlabelled (map group_statement (take l.k l.groups)));
}
