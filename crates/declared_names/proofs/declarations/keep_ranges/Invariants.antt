use Rattle.std.proofs.Common.{◌≡◌, ℕ, take}
use Rattle.std.specs.Prelude.{nat_eq}
use Rattle.indexmap.specs.IndexMap.{get}
use Rattle.layout_rules.specs.Faults.{answer_or, first_answer}
use Rattle.layout_rules.specs.Declarations.{kind_of_range}
use Rattle.declared_names.proofs.declarations.keep_ranges.Given as goal

abbrev pub invariant-loop-range : goal.invariant-loop-range
invariant-loop-range l = (letter : ℕ) → get nat_eq l.letters letter ≡ answer_or (get nat_eq l.initial.letters letter) (first_answer (kind_of_range letter) (take l.range-index l.ranges))
