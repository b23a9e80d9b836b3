use Rattle.std.proofs.Common.{◌≡◌, ◌*◌, ◌≤◌, Bool, take, drop}
use Rattle.std.specs.Prelude.{sum_by}
use Rattle.layout_rules.specs.Counts.{is_too_great, labels_picked, items_taken}
use Rattle.layout_rules.specs.LowestLines.{lower_line, lowest_after, lowest_line}
use Rattle.executable_lists.proofs.counts.lowest_too_great.Given as goal

abbrev pub invariant-loop-s : goal.invariant-loop-s
invariant-loop-s l = record {
  labels : l.labels ≡ sum_by (λ a. labels_picked a.stmt) (take l.s-index l.stmts);
  few_labels : l.labels ≤ l.s-index * 4294967295;
  items : l.items ≡ sum_by (λ a. items_taken a.stmt) (take l.s-index l.stmts);
  few_items : l.items ≤ l.s-index * 4294967295;
  line : (checked : Bool) → lowest_line (is_too_great l.names checked l.stmts) l.stmts ≡ lower_line l.lowest (lowest_after (is_too_great l.names checked l.stmts) (take l.s-index l.stmts) (drop l.s-index l.stmts));
}
