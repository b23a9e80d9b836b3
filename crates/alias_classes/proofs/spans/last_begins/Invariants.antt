use Rattle.alias_classes.specs.Spans.{AreLastBegins}
use Rattle.alias_classes.proofs.spans.last_begins.Given as goal

abbrev pub invariant-loop-word : goal.invariant-loop-word
invariant-loop-word l = AreLastBegins l.word l.spans.begins.items l.spans.ends.items l.last.items
