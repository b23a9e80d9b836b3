use Rattle.std.proofs.Common.{ℕ, List, length, ap, ◌∙◌}
use Rattle.std.specs.Prelude.{bytes_eq}
use Rattle.std.specs.List.{position_or_len}
use Rattle.program_units.specs.CallTable.{if_below}
use Rattle.entity_names.proofs.unit_entities.UnitNames.of.Goals as goal

pub returns : goal.returns
returns c = record {
  declared = c.in_ok-declared.ensures;
  names = c.in_ok-names.ensures;
  dummies = c.in_ok-dummies.ensures;
  places = λ x. c.in_ok-places.ensures x ∙ ap (λ (ds : List (List ℕ)). if_below (position_or_len (bytes_eq x) ds) (length ds)) (c.deref.ensures.value ∙ c.in_ok-dummies.ensures);
  blocks = c.in_ok-blocks.ensures;
}
