use Rattle.std.proofs.Common.{◌≡◌, ◌<◌, ◌==◌, ◌||◌, ℕ, length, take}
use Rattle.std.specs.List.{list_any}
use Rattle.simplified_forms.specs.Plans.{answer}
use Rattle.simplified_forms.proofs.ways.note.Given as goal

abbrev pub invariant-loop-s : goal.invariant-loop-s
invariant-loop-s l = record {
  size : length l.noted.items ≡ length l.initial.noted.items;
  noted : (s : ℕ) → s < length l.initial.noted.items → answer l.noted.items s ≡ (answer l.initial.noted.items s || list_any (λ x. x == s) (take l.s-index l.these));
}
