use Rattle.std.proofs.Common.{◌≡◌, false, take}
use Rattle.std.specs.List.{list_any}
use Rattle.program_units.specs.Units.{unit_at}
use Rattle.unit_checks.specs.BlockTables.{is_mismatched_block}
use Rattle.unit_checks.proofs.bad_blocks.has_mismatch.Given as goal

abbrev pub invariant-loop-block : goal.invariant-loop-block
invariant-loop-block l = list_any (is_mismatched_block l.us (unit_at l.us l.k)) (take l.block-index l.block-items) ≡ false
