use Rattle.std.proofs.Common.{◌≡◌, ◌<◌, ℕ, [], length, get_or}
use Rattle.dep_routing.specs.Touch.{touches_in}
use Rattle.const_prop.specs.Setting.{IsTouchedRow}
use Rattle.const_prop.proofs.setting.touched_rows.Given as goal

abbrev pub invariant-loop-node : goal.invariant-loop-node
invariant-loop-node g l = record {
  size : length l.rows.items ≡ l.node;
  rows : (node : ℕ) → node < l.node → IsTouchedRow (touches_in l.touch) l.lines node (get_or l.rows.items node []);
}
