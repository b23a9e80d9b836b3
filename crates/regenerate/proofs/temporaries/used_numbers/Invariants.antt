use Rattle.std.proofs.Common.{◌≡◌, ◌<◌, ◌+◌, ℕ, length, take}
use Rattle.simplified_forms.specs.Plans.{answer}
use Rattle.shared_forms.specs.Temporaries.{is_in_use, temporary_name}
use Rattle.regenerate.proofs.temporaries.used_numbers.Given as goal

abbrev pub invariant-loop-info : goal.invariant-loop-info
invariant-loop-info l = record {
  size : length l.used.items ≡ l.last + 1;
  used : (n : ℕ) → n < l.last + 1 → answer l.used.items n ≡ is_in_use (take l.info-index l.info-items) (temporary_name n);
}
