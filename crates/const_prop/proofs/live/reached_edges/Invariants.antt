use Rattle.std.proofs.Common.{◌≡◌, ◌<◌, ◌&&◌, ℕ, not, false, length, get_or}
use Rattle.closed_walks.specs.Graph.{from}
use Rattle.const_prop.proofs.live.reached_edges.Given as goal

abbrev pub invariant-loop-e : goal.invariant-loop-e
invariant-loop-e l = record {
  size : length l.live.items ≡ l.e;
  tells : (e : ℕ) → e < l.e → get_or l.live.items e false ≡ (not (get_or l.excluded e false) && get_or l.reached (from l.g e) false);
}
