use Rattle.std.proofs.Common.{ℕ, ◌<◌, ◌≤◌, ◌+◌, get_or}
use Rattle.alias_classes.specs.Spans.{Holds}
use Rattle.alias_classes.proofs.spans.last_begin.Given as goal

abbrev pub invariant-loop-next : goal.invariant-loop-next
invariant-loop-next l = record {
  within : l.next ≤ l.word + 1;
  most : (k : ℕ) → Holds l.spans.begins.items l.spans.ends.items k l.word → get_or l.spans.begins.items k 0 < l.next;
}

abbrev pub decreases-loop-next : goal.decreases-loop-next
decreases-loop-next l = l.next
