use Rattle.std.proofs.Common.{◌≡◌, fold, take}
use Rattle.std.specs.Prelude.{flat_map}
use Rattle.layout_rules.specs.Appearances.{with_name}
use Rattle.program_units.specs.Names.{option_names}
use Rattle.program_units.specs.Units.{sub_name}
use Rattle.entity_names.proofs.used_names.note_subs.Given as goal

abbrev pub invariant-loop-s : goal.invariant-loop-s
invariant-loop-s l = l.used ≡ fold with_name l.initial.used (flat_map (λ s. option_names (sub_name s.stmt)) (take l.s-index l.unit))
