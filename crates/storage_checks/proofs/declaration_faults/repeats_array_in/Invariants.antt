use Rattle.std.proofs.Common.{[], ◌∷◌}
use Rattle.f77_tree.specs.declared.declarations.Decl.{Decl}
use Rattle.layout_rules.specs.StorageFaults.{array_names}
use Rattle.storage_checks.proofs.SeenNames.{Seen}
use Rattle.storage_checks.proofs.declaration_faults.repeats_array_in.Given as goal

abbrev pub invariant-loop-decl : goal.invariant-loop-decl
invariant-loop-decl l = Seen (λ (decl : Decl). array_names (decl ∷ [])) l.decls l.initial.seen l.seen l.decl-index
