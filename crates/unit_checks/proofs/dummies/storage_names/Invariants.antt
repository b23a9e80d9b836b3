use Rattle.std.proofs.Common.{◌≡◌, take}
use Rattle.std.specs.Prelude.{flat_map}
use Rattle.layout_rules.specs.Appearances.{each_once}
use Rattle.layout_rules.specs.Declarations.{is_array}
use Rattle.program_units.specs.Dummies.{stored}
use Rattle.unit_checks.proofs.dummies.storage_names.Given as goal

abbrev pub invariant-loop-s : goal.invariant-loop-s
invariant-loop-s l = l.names ≡ each_once (flat_map (λ s. stored (is_array l.unit) s.stmt) (take l.s-index l.unit))
