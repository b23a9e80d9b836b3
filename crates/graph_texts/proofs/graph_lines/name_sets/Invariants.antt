use Rattle.graph_texts.specs.NameSets.{AreNameSetsTo}
use Rattle.graph_texts.proofs.graph_lines.name_sets.Given as goal

abbrev pub invariant-loop-name : goal.invariant-loop-name
invariant-loop-name l = AreNameSetsTo l.p.names l.c l.name l.sets.items
