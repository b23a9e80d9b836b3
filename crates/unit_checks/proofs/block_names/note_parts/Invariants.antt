use Rattle.std.proofs.Common.{take}
use Rattle.unit_checks.specs.BlockTables.{AreNoted}
use Rattle.unit_checks.proofs.block_names.note_parts.Given as goal

abbrev pub invariant-loop-part : goal.invariant-loop-part
invariant-loop-part l = AreNoted (take l.part-index l.parts) l.names l.blocks.items
