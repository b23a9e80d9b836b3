use Rattle.alias_classes.proofs.SpanLemmas.{SpansSoFar}
use Rattle.alias_classes.proofs.spans.name_spans.Given as goal

abbrev pub invariant-loop-info : goal.invariant-loop-info
invariant-loop-info l = SpansSoFar l.names l.info-index l.begins.items l.ends.items
