use Rattle.std.proofs.Common.{◌≡◌, ℕ, ◌<◌, false, length}
use Rattle.std.specs.Prelude.{slice_index_or}
use Rattle.closed_walks.specs.Graph.{edge_count}
use Rattle.cfg_build.specs.Flow.{flow}
use Rattle.dep_routing.specs.Touches.{ends_rounds}
use Rattle.dep_routing.proofs.touching.round_ends.Given as goal

abbrev pub invariant-loop-e : goal.invariant-loop-e
invariant-loop-e l = record {
  count : length l.ends.items ≡ edge_count (flow l.p.execs).graph;
  each : (e : ℕ) → e < l.e → slice_index_or l.ends.items e false ≡ ends_rounds l.p e;
}
