use Rattle.std.proofs.Common.{◌≡◌, ℕ, ◌<◌, length, get_or}
use Rattle.std.specs.Prelude.{◌↔◌}
use Rattle.class_set.specs.declared.ClassSet.{ClassSet}
use Rattle.redundancy.specs.Solving.{HasBit}
use Rattle.redundancy.specs.Killing.{Meet}
use Rattle.redundancy.proofs.rows.kill_row.Given as goal

abbrev pub invariant-loop-written : goal.invariant-loop-written
invariant-loop-written g l = record {
  count : length l.row.items ≡ l.written-index;
  bits : (node k : ℕ) (d : ClassSet g.row.W) → node < l.written-index → k < length l.needs → HasBit l.row.items k node ↔ Meet (get_or l.needs k d) (get_or l.writes node d);
}
