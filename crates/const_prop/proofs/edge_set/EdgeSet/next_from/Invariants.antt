use Rattle.std.proofs.Common.{◌≡◌, ◌+◌, ◌*◌, ◌<◌, ◌≤◌, ℕ, false}
use Rattle.class_set.specs.Members.{first_above}
use Rattle.const_prop.specs.EdgeSet.{edge_holds}
use Rattle.const_prop.proofs.edge_set.EdgeSet.next_from.Given as goal

abbrev pub invariant-loop-block : goal.invariant-loop-block
invariant-loop-block l = record {
  in_word : first_above l.below < 64;
  from : l.edge ≤ 64 * l.block + first_above l.below;
  passed : (k : ℕ) → l.edge ≤ k → k < 64 * l.block + first_above l.below → edge_holds l.self-inside.blocks.items k ≡ false;
}
