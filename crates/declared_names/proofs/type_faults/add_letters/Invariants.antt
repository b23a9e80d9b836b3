use Rattle.std.proofs.Common.{◌≡◌, ◌-◌, ◌==◌, ◌++◌}
use Rattle.std.specs.List.{range_with_len}
use Rattle.layout_rules.specs.Faults.{has_repeat}
use Rattle.layout_rules.specs.TypeFaults.{letters_of_range}
use Rattle.declared_names.proofs.type_faults.add_letters.Given as goal

abbrev pub invariant-loop-letter : goal.invariant-loop-letter
invariant-loop-letter l = record {
  again : has_repeat (λ a b. a == b) l.fn.implied.keys (letters_of_range l.range) ≡ has_repeat (λ a b. a == b) l.implied.keys (range_with_len l.letter (l.end - l.letter));
  more : l.implied.keys ++ range_with_len l.letter (l.end - l.letter) ≡ l.fn.implied.keys ++ letters_of_range l.range;
}
