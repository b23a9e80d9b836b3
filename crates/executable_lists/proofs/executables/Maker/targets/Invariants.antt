use Rattle.std.proofs.Common.{◌≡◌, map, take}
use Rattle.layout_rules.specs.Executables.{labelled}
use Rattle.executable_lists.proofs.executables.Maker.targets.Given as goal

abbrev pub invariant-loop-label : goal.invariant-loop-label
invariant-loop-label l = l.list ≡ map (labelled l.self.stmts.now) (take l.label-index l.label-items)
