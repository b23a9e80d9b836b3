use Rattle.std.proofs.Common.{◌≡◌, true, take}
use Rattle.std.specs.List.{list_all}
use Rattle.alias_classes.specs.Constant.{is_constant}
use Rattle.alias_classes.proofs.known.+constant.Given as goal

abbrev pub invariant-are_constant-loop-e : goal.invariant-are_constant-loop-e
invariant-are_constant-loop-e l = list_all is_constant (take l.e-index l.e-items) ≡ true
