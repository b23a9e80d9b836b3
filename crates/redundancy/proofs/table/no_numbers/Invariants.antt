use Rattle.std.proofs.Common.{◌≡◌, ℕ, [], length, get_or}
use Rattle.redundancy.proofs.table.no_numbers.Given as goal

abbrev pub invariant-loop : goal.invariant-loop
invariant-loop l = record {
  len : length l.lists.items ≡ l.counter;
  blank : (b : ℕ) → get_or l.lists.items b [] ≡ [];
}
