use Rattle.std.proofs.Common.{◌≡◌, map, take, All}
use Rattle.f77_tree.specs.Known.{known}
use Rattle.f77_tree.specs.Value.{IsExpression}
use Rattle.redundancy.specs.Collected.{IsGrown, all_subexpressions}
use Rattle.redundancy.proofs.collect.+collect.Given as goal

abbrev pub invariant-collect_all-loop-e : goal.invariant-collect_all-loop-e
invariant-collect_all-loop-e l = record {
  expressions : All (IsExpression l.names) l.e-items;
  values : l.values.items ≡ map known (take l.e-index l.e-items);
  grown : IsGrown l.names (all_subexpressions (take l.e-index l.e-items)) l.fn.found.items l.found.items;
}
