use Rattle.std.proofs.Common.{◌≡◌, ℕ, [], length, slice_index_or}
use Rattle.closed_walks.proofs.digraph.no_edges.Given as goal

abbrev pub invariant-loop : goal.invariant-loop
invariant-loop l = record {
  len : length l.lists.items ≡ l.counter;
  blank : (node : ℕ) → slice_index_or l.lists.items node [] ≡ [];
}
