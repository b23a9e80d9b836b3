use Rattle.std.proofs.Common.{◌≡◌, ◌≤◌, ◌<◌, ◌*◌, ℕ, None, length, slice_index_or}
use Rattle.range_lines.specs.Reaches.{IsReach, AreNextWrites}
use Rattle.range_lines.proofs.reaches.loop_reaches.Given as goal

abbrev pub invariant-loop-k : goal.invariant-loop-k
invariant-loop-k g l = record {
  inside : l.k ≤ length l.p.execs;
  each : length l.reaches.items ≡ length l.p.execs;
  all : length l.next.items ≡ 64 * g.row.W;
  right : (j : ℕ) → l.k ≤ j → j < length l.p.execs → IsReach l.p l.c j (slice_index_or l.reaches.items j None);
  next : AreNextWrites l.p l.c l.k l.next.items;
}
