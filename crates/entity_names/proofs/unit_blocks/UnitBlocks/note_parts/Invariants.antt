use Rattle.std.proofs.Common.{◌++◌, List, take}
use Rattle.entity_names.specs.UnitBlocks.{AreKept, InCommon, in_commons}
use Rattle.entity_names.proofs.unit_blocks.UnitBlocks.note_parts.Given as goal

abbrev pub invariant-loop-part : goal.invariant-loop-part
invariant-loop-part l = (common : List InCommon) → AreKept common l.initial.self → AreKept (common ++ in_commons (take l.part-index l.parts)) l.self
