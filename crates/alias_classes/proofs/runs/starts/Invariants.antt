use Rattle.alias_classes.proofs.RunLemmas.{StartsSoFar}
use Rattle.alias_classes.proofs.runs.starts.Given as goal

abbrev pub invariant-loop-word : goal.invariant-loop-word
invariant-loop-word l = StartsSoFar l.numbers.items l.word l.starts.items
