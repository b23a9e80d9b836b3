use Rattle.std.proofs.Common.{◌≡◌, map, take}
use Rattle.program_units.specs.CallTable.{row_width}
use Rattle.inlined_copies.proofs.widths.next_widths.Given as goal

abbrev pub invariant-loop-row : goal.invariant-loop-row
invariant-loop-row l = l.next.items ≡ map (row_width l.limit l.widths) (take l.row-index l.rows)
