use Rattle.std.proofs.Common.{◌≡◌, false, take}
use Rattle.std.specs.List.{list_any}
use Rattle.layout_rules.specs.Labels.{statement_of}
use Rattle.layout_rules.specs.Jumps.{leads_into}
use Rattle.control_structure.proofs.jumps.enters_one.Given as goal

abbrev pub invariant-loop-label : goal.invariant-loop-label
invariant-loop-label l = list_any (λ label. leads_into l.stmts l.from (statement_of l.stmts label)) (take l.label-index l.targets) ≡ false
