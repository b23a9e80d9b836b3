use Rattle.std.proofs.Common.{◌≡◌, ◌<◌, ℕ, [], length, get_or}
use Rattle.cfg_build.specs.Passes.{outs}
use Rattle.const_prop.proofs.setting.out_rows.Given as goal

abbrev pub invariant-loop-node : goal.invariant-loop-node
invariant-loop-node l = record {
  size : length l.rows.items ≡ l.node;
  rows : (node : ℕ) → node < l.node → get_or l.rows.items node [] ≡ outs l.g node;
}
