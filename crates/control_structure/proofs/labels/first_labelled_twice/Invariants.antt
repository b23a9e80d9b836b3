use Rattle.std.proofs.Common.{◌≡◌, take, drop}
use Rattle.layout_rules.specs.Faults.{first_line, first_after}
use Rattle.layout_rules.specs.Labels.{is_labelled_twice}
use Rattle.control_structure.proofs.labels.first_labelled_twice.Given as goal

abbrev pub invariant-loop-i : goal.invariant-loop-i
invariant-loop-i l = first_line is_labelled_twice l.stmts ≡ first_after is_labelled_twice (take l.i l.stmts) (drop l.i l.stmts)
