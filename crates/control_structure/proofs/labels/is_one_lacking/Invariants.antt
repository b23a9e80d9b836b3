use Rattle.std.proofs.Common.{◌≡◌, false, not, take}
use Rattle.std.specs.List.{list_any}
use Rattle.layout_rules.specs.Labels.{bears}
use Rattle.control_structure.proofs.labels.is_one_lacking.Given as goal

abbrev pub invariant-loop-label : goal.invariant-loop-label
invariant-loop-label l = list_any (λ label. not (list_any (bears label) l.stmts)) (take l.label-index l.targets) ≡ false
