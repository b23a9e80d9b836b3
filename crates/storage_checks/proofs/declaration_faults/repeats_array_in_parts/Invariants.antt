use Rattle.f77_tree.specs.declared.declarations.CommonPart.{CommonPart}
use Rattle.layout_rules.specs.StorageFaults.{array_names}
use Rattle.storage_checks.proofs.SeenNames.{Seen}
use Rattle.storage_checks.proofs.declaration_faults.repeats_array_in_parts.Given as goal

abbrev pub invariant-loop-part : goal.invariant-loop-part
invariant-loop-part l = Seen (λ (part : CommonPart). array_names part.decls) l.parts l.initial.seen l.seen l.part-index
