use Rattle.alias_classes.proofs.SpanLemmas.{ReachSoFar}
use Rattle.alias_classes.proofs.spans.reaches.Given as goal

abbrev pub invariant-loop-k : goal.invariant-loop-k
invariant-loop-k l = ReachSoFar l.words l.spans.begins.items l.spans.ends.items l.k l.reaches.items
