use Rattle.program_units.proofs.NamesAbove.{AreAbove}
use Rattle.program_units.proofs.named_subs.sub_names.Given as goal

abbrev pub invariant-loop-s : goal.invariant-loop-s
invariant-loop-s l = AreAbove l.stmts l.s-index l.names
