use Rattle.std.proofs.Common.{◌≡◌, fold, take}
use Rattle.std.specs.Prelude.{flat_map}
use Rattle.layout_rules.specs.Appearances.{with_name}
use Rattle.program_units.specs.Names.{option_names}
use Rattle.entity_names.proofs.used_names.note_parts.Given as goal

abbrev pub invariant-loop-part : goal.invariant-loop-part
invariant-loop-part l = l.used ≡ fold with_name l.initial.used (flat_map (λ part. option_names part.block) (take l.part-index l.parts))
