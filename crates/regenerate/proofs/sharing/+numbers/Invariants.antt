use Rattle.std.proofs.Common.{◌≡◌, ◌++◌, take}
use Rattle.redundancy.specs.Collected.{all_subexpressions}
use Rattle.shared_forms.specs.Numbered.{numbers_in}
use Rattle.regenerate.proofs.sharing.+numbers.Given as goal

abbrev pub invariant-append_all_numbers-loop-e : goal.invariant-append_all_numbers-loop-e
invariant-append_all_numbers-loop-e l = record {
  found : l.found.items ≡ l.initial.found.items ++ numbers_in l.a.candidates (all_subexpressions (take l.e-index l.e-items));
}
