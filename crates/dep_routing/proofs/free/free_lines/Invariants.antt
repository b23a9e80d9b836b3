use Rattle.std.proofs.Common.{◌≡◌, ◌<◌, ℕ, true, take}
use Rattle.std.specs.List.{list_any}
use Rattle.class_set.specs.ClassSet.{holds}
use Rattle.closed_walks.specs.Graph.{edges_at}
use Rattle.dep_routing.specs.FreeLines.{comes_along}
use Rattle.dep_routing.proofs.free.free_lines.Given as goal

abbrev pub invariant-loop-e : goal.invariant-loop-e
invariant-loop-e g l = record {
  edges : l.e-items ≡ edges_at l.g l.node;
  free : (line : ℕ) → line < l.l.lines → holds l.free line ≡ list_any (comes_along l.g l.l l.node line) (take l.e-index l.e-items);
  within : (line : ℕ) → holds l.free line ≡ true → line < l.l.lines;
}
