use Rattle.std.proofs.Common.{◌≡◌, ◌+◌, ◌++◌, ℕ, [], drop, length}
use Rattle.graph_pictures.specs.Groups.{list_at}
use Rattle.graph_pictures.specs.Numbers.{places_of}
use Rattle.graph_pictures.proofs.groups.Groups.of.Given as goal

abbrev pub invariant-loop : goal.invariant-loop
invariant-loop l = record {
  many : length l.lists.items ≡ l.counter;
  none : (n : ℕ) → list_at l.lists.items n ≡ [];
}

abbrev pub invariant-loop-number : goal.invariant-loop-number
invariant-loop-number l = record {
  many : length l.lists.items ≡ l.count;
  next : l.place ≡ l.first + l.number-index;
  each : (n : ℕ) → list_at l.lists.items n ++ places_of l.count l.place n (drop l.number-index l.numbers) ≡ places_of l.count l.first n l.numbers;
}
