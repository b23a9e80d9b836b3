use Rattle.std.proofs.Common.{◌≡◌, ◌++◌, take}
use Rattle.unit_checks.specs.BlockTables.{decl_names}
use Rattle.unit_checks.proofs.block_names.add_names.Given as goal

abbrev pub invariant-loop-decl : goal.invariant-loop-decl
invariant-loop-decl l = l.names.items ≡ l.initial.names.items ++ decl_names (take l.decl-index l.decls)
