use Rattle.std.proofs.Common.{◌≡◌, ℕ, ◌<◌, length, get_or}
use Rattle.class_set.specs.declared.ClassSet.{ClassSet}
use Rattle.alias_classes.specs.Runs.{IsSetOf}
use Rattle.alias_classes.proofs.making.name_sets.Given as goal

abbrev pub invariant-loop-k : goal.invariant-loop-k
invariant-loop-k g l = record {
  count : length l.sets.items ≡ l.k;
  each : (k : ℕ) (d : ClassSet g.row.W) → k < l.k → IsSetOf l.numbers.items (get_or l.spans.begins.items k 0) (get_or l.spans.ends.items k 0) (get_or l.sets.items k d);
}
