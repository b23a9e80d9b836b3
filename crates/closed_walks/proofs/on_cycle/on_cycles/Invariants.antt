use Rattle.std.proofs.Common.{◌≡◌, ◌<◌, ℕ, []}
use Rattle.closed_walks.specs.Component.{marked, stage_of, IsFound, IsWalk}
use Rattle.closed_walks.proofs.on_cycle.on_cycles.Given as goal

abbrev pub invariant-loop-root : goal.invariant-loop-root
invariant-loop-root l = record {
  walk : IsWalk l.g (marked l.avoided) l.walk;
  none : l.walk.members.items ≡ [];
  found : (v : ℕ) → v < l.root → IsFound (stage_of l.walk.stages.items v);
}
