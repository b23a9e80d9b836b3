use Rattle.std.proofs.Common.{◌≡◌, ◌++◌, List, map, replicate}
use Rattle.f77_tree.specs.declared.declarations.Kind.{Kind}
use Rattle.f77_tree.specs.InitialWords.{lit_kind}
use Rattle.layout_rules.specs.StorageFaults.{are_same_kinds}
use Rattle.storage_checks.proofs.data_kinds.takes.Given as goal

abbrev pub invariant-loop-left : goal.invariant-loop-left
invariant-loop-left l = (more : List Kind) → are_same_kinds (replicate l.len l.kind ++ more) (map lit_kind l.initial.constants) ≡ are_same_kinds (replicate l.left l.kind ++ more) (map lit_kind l.constants)

abbrev pub decreases-loop-left : goal.decreases-loop-left
decreases-loop-left l = l.left
