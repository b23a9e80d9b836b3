use Rattle.std.proofs.Common.{◌≡◌, ◌++◌, drop, flat_map}
use Rattle.dependence_texts.specs.Lines.{spaced}
use Rattle.dependence_texts.proofs.lines.add_spaced.Given as goal

abbrev pub invariant-loop-name : goal.invariant-loop-name
invariant-loop-name l = l.text.items ++ flat_map spaced (drop l.name-index l.names) ≡ l.fn.text.items ++ flat_map spaced l.names
