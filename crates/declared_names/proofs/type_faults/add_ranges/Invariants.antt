use Rattle.std.proofs.Common.{◌≡◌, ◌==◌, ◌++◌, drop}
use Rattle.std.specs.Prelude.{flat_map}
use Rattle.layout_rules.specs.Faults.{has_repeat}
use Rattle.layout_rules.specs.TypeFaults.{letters_of_range}
use Rattle.declared_names.proofs.type_faults.add_ranges.Given as goal

abbrev pub invariant-loop-range : goal.invariant-loop-range
invariant-loop-range l = record {
  again : has_repeat (λ a b. a == b) l.fn.implied.keys (flat_map letters_of_range l.ranges) ≡ has_repeat (λ a b. a == b) l.implied.keys (flat_map letters_of_range (drop l.range-index l.ranges));
  more : l.implied.keys ++ flat_map letters_of_range (drop l.range-index l.ranges) ≡ l.fn.implied.keys ++ flat_map letters_of_range l.ranges;
}
