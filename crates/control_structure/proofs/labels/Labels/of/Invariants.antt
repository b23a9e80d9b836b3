use Rattle.control_structure.proofs.LabelLemmas.{IsTable}
use Rattle.control_structure.proofs.labels.Labels.of.Given as goal

abbrev pub invariant-loop-i : goal.invariant-loop-i
invariant-loop-i l = IsTable l.stmts l.i l.count l.places.items
