use Rattle.std.proofs.Common.{◌≡◌, take}
use Rattle.layout_rules.specs.PlacedNames.{with_places}
use Rattle.f77_layout.proofs.collecting.placed_names.Given as goal

abbrev pub invariant-loop-k : goal.invariant-loop-k
invariant-loop-k l = l.placed ≡ with_places (take l.k l.names) (take l.k l.places)
