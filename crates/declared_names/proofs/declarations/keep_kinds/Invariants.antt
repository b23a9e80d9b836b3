use Rattle.std.proofs.Common.{◌≡◌, ℕ, List, take, Some, None}
use Rattle.std.specs.Prelude.{bytes_eq, if◌then◌else◌}
use Rattle.std.specs.List.{list_any}
use Rattle.indexmap.specs.IndexMap.{get}
use Rattle.layout_rules.specs.Faults.{answer_or}
use Rattle.declared_names.proofs.declarations.keep_kinds.Given as goal

abbrev pub invariant-loop-decl : goal.invariant-loop-decl
invariant-loop-decl l = (name : List ℕ) → get bytes_eq l.kinds name ≡ answer_or (get bytes_eq l.initial.kinds name) (if list_any (λ decl. bytes_eq decl.name name) (take l.decl-index l.decls) then Some l.kind else None)
