use Rattle.std.proofs.Common.{◌≡◌, take, fold, map, flat_map}
use Rattle.declared_names.specs.Noting.{noted}
use Rattle.declared_names.proofs.appearances.Appeared.note_commons.Given as goal

abbrev pub invariant-loop-part : goal.invariant-loop-part
invariant-loop-part l = l.self ≡ fold (noted l.declared) l.initial.self (flat_map (λ part. map (λ decl. decl.name) part.decls) (take l.part-index l.parts))
