use Rattle.std.proofs.Common.{◌≡◌, take, drop}
use Rattle.layout_rules.specs.Faults.{first_line, first_after}
use Rattle.layout_rules.specs.Labels.{lacks_label}
use Rattle.control_structure.proofs.labels.first_lacking_label.Given as goal

abbrev pub invariant-loop-s : goal.invariant-loop-s
invariant-loop-s l = first_line (lacks_label l.stmts) l.stmts ≡ first_after (lacks_label l.stmts) (take l.s-index l.stmts) (drop l.s-index l.stmts)
