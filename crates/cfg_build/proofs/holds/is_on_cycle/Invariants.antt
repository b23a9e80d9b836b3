use Rattle.std.proofs.Common.{◌≡◌, ℕ, ◌<◌, ◌==◌, ◌&&◌, false, get_or}
use Rattle.closed_walks.specs.Graph.{edges_at, from, to}
use Rattle.cfg_build.proofs.holds.is_on_cycle.Given as goal

abbrev pub invariant-loop-e : goal.invariant-loop-e
invariant-loop-e l = record {
  edges : l.e-items ≡ edges_at l.g l.x;
  none : (k : ℕ) → k < l.e-index → ((to l.g (get_or l.e-items k 0) == l.x) && get_or l.reached.items (from l.g (get_or l.e-items k 0)) false) ≡ false;
}
