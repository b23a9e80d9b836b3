use Rattle.std.proofs.Common.{[], ◌∷◌}
use Rattle.f77_tree.specs.declared.declarations.Decl.{Decl}
use Rattle.storage_checks.proofs.SeenNames.{Seen}
use Rattle.storage_checks.proofs.declaration_faults.repeats_name_in.Given as goal

abbrev pub invariant-loop-decl : goal.invariant-loop-decl
invariant-loop-decl l = Seen (λ (decl : Decl). decl.name ∷ []) l.decls l.initial.seen l.seen l.decl-index
