use Rattle.std.proofs.Common.{◌≡◌, ◌*◌, ◌<◌, ◌≤◌, ℕ, true, length}
use Rattle.const_prop.specs.EdgeSet.{edge_holds}
use Rattle.const_prop.proofs.edge_set.EdgeSet.full.Given as goal

abbrev pub invariant-loop-edge : goal.invariant-loop-edge
invariant-loop-edge l = record {
  room : l.edges ≤ 64 * length l.set;
  all : (e : ℕ) → e < l.edge → edge_holds l.set e ≡ true;
}
