use Rattle.std.proofs.Common.{◌≡◌, ◌<◌, ℕ, Some, None}
use Rattle.std.specs.Prelude.{nat_eq, nat_le, nat_lt, ◌&&◌, if◌then◌else◌}
use Rattle.indexmap.specs.IndexMap.{get}
use Rattle.layout_rules.specs.Faults.{answer_or}
use Rattle.declared_names.proofs.declarations.keep_range.Given as goal

abbrev pub invariant-loop-letter : goal.invariant-loop-letter
invariant-loop-letter l = record {
  empty : l.range.to < l.range.from → l.letter ≡ l.range.from;
  kept : (letter : ℕ) → get nat_eq l.letters letter ≡ answer_or (get nat_eq l.initial.letters letter) (if nat_le l.range.from letter && nat_lt letter l.letter then Some l.range.kind else None);
}
