use Rattle.program_units.specs.CallTable.{AreAfter}
use Rattle.inlined_copies.proofs.widths.settled_widths.Given as goal

abbrev pub invariant-loop : goal.invariant-loop
invariant-loop l = AreAfter l.limit l.rows l.counter l.widths.items
