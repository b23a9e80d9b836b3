use Rattle.std.proofs.Common.{◌≡◌, ◌<◌, ◌&&◌, ℕ, length}
use Rattle.std.specs.List.{list_any, range_with_len}
use Rattle.shared_forms.specs.Numbered.{number_of}
use Rattle.simplified_forms.specs.Plans.{answer}
use Rattle.shared_forms.specs.Shared.{computed, is_available, is_one_of}
use Rattle.regenerate.proofs.sharing.shared_candidates.Given as goal

abbrev pub invariant-loop-k : goal.invariant-loop-k
invariant-loop-k l = record {
  size : length l.shared.items ≡ length l.a.candidates;
  noted : (n : ℕ) → n < length l.a.candidates → answer l.shared.items n ≡ list_any (λ k. is_one_of (computed l.q l.a (number_of l.a) k) n && is_available l.q l.a (number_of l.a) k n) (range_with_len 0 l.k);
}
