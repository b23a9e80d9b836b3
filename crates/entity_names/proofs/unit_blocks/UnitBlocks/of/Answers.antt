use Rattle.std.proofs.Common.{List, [], ap, subst, ◌∙◌}
use Rattle.entity_names.specs.UnitBlocks.{AreKept, InCommon, in_commons}
use Rattle.entity_names.proofs.CommonPlaces.{blocks-of}
use Rattle.entity_names.proofs.unit_blocks.UnitBlocks.of.Goals as goal

pub returns : goal.returns
returns c =
    let made = c.note_parts.new.self in
    blocks-of c.args.unit.now made (subst (λ (cs : List InCommon). AreKept cs made) (ap in_commons (c.as_slice.ensures ∙ c.in_ok-commons.ensures)) (c.in_ok-note_parts.ensures [] c.new-blocks.ensures))

pub note_parts-requires : goal.note_parts-requires
note_parts-requires c = record { common = []; are = c.new-blocks.ensures }
