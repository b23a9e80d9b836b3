use Rattle.std.proofs.Common.{◌≡◌, [], map, fold, take}
use Rattle.layout_rules.specs.Resolved.{resolved}
use Rattle.executable_lists.specs.Nested.{with_operand}
use Rattle.executable_lists.proofs.resolve.+resolution.Given as goal

abbrev pub invariant-resolve_row-loop-arg : goal.invariant-resolve_row-loop-arg
invariant-resolve_row-loop-arg l = l.row ≡ map (resolved l.names l.checked) (take l.arg-index l.arg-items)

abbrev pub invariant-resolve_nested-loop-arg : goal.invariant-resolve_nested-loop-arg
invariant-resolve_nested-loop-arg l = l.operands ≡ fold (with_operand l.op) [] (map (resolved l.names l.checked) (take l.arg-index l.arg-items))
