use Rattle.std.proofs.Common.{map}
use Rattle.f77_tree.specs.declared.declarations.CommonPart.{CommonPart}
use Rattle.storage_checks.proofs.SeenNames.{Seen}
use Rattle.storage_checks.proofs.declaration_faults.repeats_name_in_parts.Given as goal

abbrev pub invariant-loop-part : goal.invariant-loop-part
invariant-loop-part l = Seen (λ (part : CommonPart). map (λ decl. decl.name) part.decls) l.parts l.initial.seen l.seen l.part-index
