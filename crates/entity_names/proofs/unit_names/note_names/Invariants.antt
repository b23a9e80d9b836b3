use Rattle.std.proofs.Common.{◌≡◌, fold, take}
use Rattle.layout_rules.specs.Appearances.{with_name}
use Rattle.entity_names.proofs.unit_names.note_names.Given as goal

abbrev pub invariant-loop-name : goal.invariant-loop-name
invariant-loop-name l = l.names ≡ fold with_name l.initial.names (take l.name-index l.added)
