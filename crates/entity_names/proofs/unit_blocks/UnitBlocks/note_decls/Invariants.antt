use Rattle.std.proofs.Common.{◌++◌, List, take}
use Rattle.entity_names.specs.UnitBlocks.{AreKept, InCommon, declared_by}
use Rattle.entity_names.proofs.unit_blocks.UnitBlocks.note_decls.Given as goal

abbrev pub invariant-loop-decl : goal.invariant-loop-decl
invariant-loop-decl l = (common : List InCommon) → AreKept common l.initial.self → AreKept (common ++ declared_by l.block (take l.decl-index l.decls)) l.self
