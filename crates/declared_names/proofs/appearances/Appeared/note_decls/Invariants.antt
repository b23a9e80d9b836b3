use Rattle.std.proofs.Common.{◌≡◌, take, fold, map}
use Rattle.declared_names.specs.Noting.{noted}
use Rattle.declared_names.proofs.appearances.Appeared.note_decls.Given as goal

abbrev pub invariant-loop-decl : goal.invariant-loop-decl
invariant-loop-decl l = l.self ≡ fold (noted l.declared) l.initial.self (map (λ decl. decl.name) (take l.decl-index l.decls))
