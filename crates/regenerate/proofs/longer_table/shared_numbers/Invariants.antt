use Rattle.std.proofs.Common.{◌≡◌, filter}
use Rattle.std.specs.List.{range_with_len}
use Rattle.shared_forms.specs.Numbered.{number_of}
use Rattle.shared_forms.specs.Shared.{is_shared}
use Rattle.regenerate.proofs.longer_table.shared_numbers.Given as goal

abbrev pub invariant-loop-n : goal.invariant-loop-n
invariant-loop-n l = record {
  numbers : l.numbers.items ≡ filter (is_shared l.q l.a (number_of l.a)) (range_with_len 0 l.n);
}
