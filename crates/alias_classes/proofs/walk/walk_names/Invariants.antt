use Rattle.std.proofs.Common.{◌≡◌, length}
use Rattle.alias_classes.specs.Spans.{Holds}
use Rattle.alias_classes.specs.Walk.{key_of, AreSkips, IsWalked}
use Rattle.alias_classes.proofs.walk.walk_names.Given as goal

abbrev pub invariant-loop-k : goal.invariant-loop-k
invariant-loop-k l = record {
  each : length l.walk.numbers.items ≡ l.marks.words;
  skips : AreSkips l.walk.numbers.items l.walk.skips.items;
  walked : IsWalked (Holds l.spans.begins.items l.spans.ends.items) (key_of l.marks.words l.marks.forth.items l.marks.back.items) l.k 0 l.walk.numbers.items l.walk.keys.keys;
}
