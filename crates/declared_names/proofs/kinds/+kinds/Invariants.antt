use Rattle.std.proofs.Common.{◌≡◌, true, take}
use Rattle.std.specs.List.{list_all}
use Rattle.layout_rules.specs.Types.{is_of_kind}
use Rattle.declared_names.proofs.kinds.+kinds.Given as goal

abbrev pub invariant-are_of_kind-loop-arg : goal.invariant-are_of_kind-loop-arg
invariant-are_of_kind-loop-arg l = list_all (is_of_kind l.names l.kind) (take l.arg-index l.arg-items) ≡ true
