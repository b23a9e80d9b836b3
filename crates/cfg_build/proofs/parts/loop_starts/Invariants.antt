use Rattle.std.proofs.Common.{◌≡◌, ◌<◌, ℕ, length, slice_index}
use Rattle.f77_tree.specs.Loops.{do_start}
use Rattle.cfg_build.proofs.parts.loop_starts.Given as goal

abbrev pub invariant-loop-k : goal.invariant-loop-k
invariant-loop-k l = record {
  count : length l.starts.items ≡ l.p.loops;
  starts : (n : ℕ) → n < l.p.loops → do_start l.p.execs n < l.k → slice_index l.starts.items n ≡ do_start l.p.execs n;
}
