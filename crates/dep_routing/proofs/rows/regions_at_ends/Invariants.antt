use Rattle.std.proofs.Common.{◌≡◌, ◌<◌, ℕ, length, get_or}
use Rattle.closed_walks.specs.Graph.{to}
use Rattle.region_tree.specs.Tree.{innermost_of}
use Rattle.dep_routing.proofs.rows.regions_at_ends.Given as goal

abbrev pub invariant-loop-e : goal.invariant-loop-e
invariant-loop-e l = record {
  size : length l.regions.items ≡ l.e;
  told : (k : ℕ) → k < l.e → get_or l.regions.items k 0 ≡ innermost_of l.t (to l.g k);
}
