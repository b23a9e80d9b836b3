use Rattle.std.proofs.Common.{◌≡◌, ◌≤◌, not, length}
use Rattle.std.specs.List.{filter}
use Rattle.unit_tables.specs.Units.{is_main}
use Rattle.unit_tables.proofs.units.main_first.Given as goal

abbrev pub invariant-loop-unit : goal.invariant-loop-unit
invariant-loop-unit l = (l.mains.items ≡ filter is_main l.yielded) × (l.others.items ≡ filter (λ unit. not (is_main unit)) l.yielded) × (length l.mains.items ≤ 1)
