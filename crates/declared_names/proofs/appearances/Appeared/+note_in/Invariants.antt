use Rattle.std.proofs.Common.{◌≡◌, take, fold, flat_map}
use Rattle.layout_rules.specs.Appearances.{names_in}
use Rattle.declared_names.specs.KeptDeclarations.{is_array_by}
use Rattle.declared_names.specs.Noting.{noted}
use Rattle.declared_names.proofs.appearances.Appeared.+note_in.Given as goal

abbrev pub invariant-loop-arg : goal.invariant-loop-arg
invariant-loop-arg l = l.self ≡ fold (noted l.declared) l.initial.self (flat_map (names_in (is_array_by l.declared)) (take l.arg-index l.arg-items))
