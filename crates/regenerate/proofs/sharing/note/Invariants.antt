use Rattle.std.proofs.Common.{◌≡◌, ◌<◌, ◌||◌, ◌&&◌, ℕ, length, take}
use Rattle.redundancy.specs.Available.{available_at}
use Rattle.simplified_forms.specs.Plans.{answer}
use Rattle.shared_forms.specs.Shared.{is_one_of}
use Rattle.regenerate.proofs.sharing.note.Given as goal

abbrev pub invariant-loop-n : goal.invariant-loop-n
invariant-loop-n l = record {
  size : length l.shared.items ≡ length l.a.candidates;
  noted : (n : ℕ) → n < length l.a.candidates → answer l.shared.items n ≡ (answer l.initial.shared.items n || (is_one_of (take l.n-index l.numbers) n && available_at l.a n l.node));
}
