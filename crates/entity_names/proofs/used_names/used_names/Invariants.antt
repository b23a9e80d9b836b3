use Rattle.std.proofs.Common.{◌≡◌, take}
use Rattle.layout_rules.specs.Appearances.{each_once}
use Rattle.program_units.specs.Names.{used_names}
use Rattle.entity_names.proofs.used_names.used_names.Given as goal

abbrev pub invariant-loop-k : goal.invariant-loop-k
invariant-loop-k l = l.used ≡ each_once (used_names (take l.k l.us))
