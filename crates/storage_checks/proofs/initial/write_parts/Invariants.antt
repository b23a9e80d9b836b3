use Rattle.std.proofs.Common.{◌≡◌, take}
use Rattle.std.specs.List.{flat_map}
use Rattle.layout_rules.specs.PlacedNames.{with_places}
use Rattle.storage_checks.specs.Writing.{written, part_pairs}
use Rattle.storage_checks.proofs.initial.write_parts.Given as goal

abbrev pub invariant-loop-part : goal.invariant-loop-part
invariant-loop-part l = l.cells ≡ written l.initial.cells (flat_map (part_pairs (with_places l.names l.places)) (take l.part-index l.inits))
