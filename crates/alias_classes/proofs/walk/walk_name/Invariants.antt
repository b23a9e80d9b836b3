use Rattle.std.proofs.Common.{◌≡◌, ◌≤◌, ◌-◌, length, get_or}
use Rattle.alias_classes.specs.Spans.{Holds}
use Rattle.alias_classes.specs.Walk.{key_of, AreSkips, IsWalked}
use Rattle.alias_classes.proofs.walk.walk_name.Given as goal

abbrev pub invariant-loop-word : goal.invariant-loop-word
invariant-loop-word l = record {
  begun : get_or l.spans.begins.items l.k 0 ≤ l.word;
  each : length l.walk.numbers.items ≡ l.marks.words;
  skips : AreSkips l.walk.numbers.items l.walk.skips.items;
  walked : IsWalked (Holds l.spans.begins.items l.spans.ends.items) (key_of l.marks.words l.marks.forth.items l.marks.back.items) l.k l.word l.walk.numbers.items l.walk.keys.keys;
}

abbrev pub decreases-loop-word : goal.decreases-loop-word
decreases-loop-word l = l.end - l.word
