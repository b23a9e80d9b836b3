use Rattle.std.proofs.Common.{◌≡◌, ◌≤◌, length}
use Rattle.shared_forms.specs.Temporaries.{free_up_to}
use Rattle.regenerate.proofs.temporaries.first_free_names.Given as goal

abbrev pub invariant-loop-k : goal.invariant-loop-k
invariant-loop-k l = record {
  free : l.free.items ≡ free_up_to l.names l.k;
  few : length l.free.items ≤ l.count;
}
