use Rattle.std.proofs.Common.{◌≡◌, ◌+◌, ◌*◌, ℕ, true, length}
use Rattle.closed_walks.specs.Walk.{Reach, only}
use Rattle.closed_walks.specs.Search.{is_visited, blanks, IsOpen, Nothing}
use Rattle.closed_walks.proofs.search.visited_from.Given as goal

abbrev pub invariant-loop-node : goal.invariant-loop-node
invariant-loop-node l = record {
  leaves : IsOpen l.g l.without l.visited.items l.frontier.items Nothing;
  begun : is_visited l.visited.items l.start ≡ true;
  reached : (v : ℕ) → is_visited l.visited.items v ≡ true → Reach l.g (only l.without) l.start v;
}

abbrev pub decreases-loop-node : goal.decreases-loop-node
decreases-loop-node l = 2 * blanks l.visited.items + length l.frontier.items
