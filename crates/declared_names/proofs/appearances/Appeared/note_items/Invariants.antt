use Rattle.std.proofs.Common.{◌≡◌, take, fold, flat_map}
use Rattle.layout_rules.specs.Appearances.{names_in_item}
use Rattle.declared_names.specs.KeptDeclarations.{is_array_by}
use Rattle.declared_names.specs.Noting.{noted}
use Rattle.declared_names.proofs.appearances.Appeared.note_items.Given as goal

abbrev pub invariant-loop-item : goal.invariant-loop-item
invariant-loop-item l = l.self ≡ fold (noted l.declared) l.initial.self (flat_map (names_in_item (is_array_by l.declared)) (take l.item-index l.items))
