use Rattle.std.proofs.Common.{◌≡◌, ℕ, ◌+◌, ◌<◌, ◌≤◌, length}
use Rattle.std.specs.Prelude.{slice_index}
use Rattle.layout_rules.specs.Executables.{met}
use Rattle.executable_lists.proofs.flow.met_executables.Given as goal

abbrev pub invariant-loop-place : goal.invariant-loop-place
invariant-loop-place l = record {
  size : length l.met.items ≡ length l.stmts + 1;
  entry : (k : ℕ) → l.place ≤ k → k < length l.stmts + 1 → slice_index l.met.items k ≡ met l.stmts k;
}
