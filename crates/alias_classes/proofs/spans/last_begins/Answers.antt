use Rattle.alias_classes.proofs.SpanLemmas.{last-push}
use Rattle.alias_classes.proofs.spans.last_begins.Goals as goal

pub loop-word-preserved : goal.loop-word-preserved
loop-word-preserved c =
    rw c.in_ok-push.ensures.items (last-push c.loop-word.word c.last_begin.result c.args.spans.now.begins.items c.args.spans.now.ends.items c.loop-word.last.items c.loop-word.invariant c.last_begin.ensures)
