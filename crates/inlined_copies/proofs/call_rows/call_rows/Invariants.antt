use Rattle.std.proofs.Common.{◌≡◌, map}
use Rattle.std.specs.List.{range_with_len}
use Rattle.program_units.specs.CallTable.{call_row}
use Rattle.inlined_copies.proofs.call_rows.call_rows.Given as goal

abbrev pub invariant-loop-k : goal.invariant-loop-k
invariant-loop-k l = l.rows.items ≡ map (call_row l.limit l.us) (range_with_len 0 l.k)
