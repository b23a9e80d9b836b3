use Rattle.std.proofs.Common.{◌≡◌, ℕ, ◌+◌, ◌<◌, length, get_or}
use Rattle.alias_classes.proofs.spans.from_end.Given as goal

abbrev pub invariant-loop-place : goal.invariant-loop-place
invariant-loop-place l = record {
  as_many : length l.back.items ≡ l.place-index;
  own : (k : ℕ) → k < l.place-index → get_or l.back.items k 0 + get_or l.places.items k 0 ≡ l.words;
}
