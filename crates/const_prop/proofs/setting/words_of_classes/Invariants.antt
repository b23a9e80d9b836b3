use Rattle.const_prop.proofs.Counting.{AreCounts}
use Rattle.const_prop.proofs.setting.words_of_classes.Given as goal

abbrev pub invariant-loop-word : goal.invariant-loop-word
invariant-loop-word g l = AreCounts l.c.numbers l.counts.items l.lines l.word
