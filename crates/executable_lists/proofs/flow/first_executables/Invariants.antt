use Rattle.std.proofs.Common.{◌≡◌}
use Rattle.layout_rules.specs.Executables.{first_of}
use Rattle.layout_rules.specs.Tables.{IsTable}
use Rattle.executable_lists.proofs.flow.first_executables.Given as goal

abbrev pub invariant-loop-s : goal.invariant-loop-s
invariant-loop-s l = record {
  first : IsTable (first_of l.stmts) l.s-index l.first.items;
  count : l.count ≡ first_of l.stmts l.s-index;
}
