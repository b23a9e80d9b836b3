use Rattle.alias_classes.proofs.RunLemmas.{SetSoFar}
use Rattle.alias_classes.proofs.runs.classes_between.Given as goal

abbrev pub invariant-loop-word : goal.invariant-loop-word
invariant-loop-word g l = SetSoFar l.numbers.items l.begin l.word l.end l.set

abbrev pub decreases-loop-word : goal.decreases-loop-word
decreases-loop-word g l = l.word
