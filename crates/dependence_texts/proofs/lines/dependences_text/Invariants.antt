use Rattle.std.proofs.Common.{◌≡◌, ◌++◌, drop, flat_map}
use Rattle.dependence_texts.specs.Lines.{dependence_text}
use Rattle.dependence_texts.proofs.lines.dependences_text.Given as goal

abbrev pub invariant-loop-dependence : goal.invariant-loop-dependence
invariant-loop-dependence l = l.text.items ++ flat_map (dependence_text l.graph) (drop l.dependence-index l.all) ≡ flat_map (dependence_text l.graph) l.all
