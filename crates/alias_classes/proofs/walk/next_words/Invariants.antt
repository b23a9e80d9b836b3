use Rattle.std.proofs.Common.{◌≡◌, ℕ, ◌<◌, ◌+◌, length, get_or}
use Rattle.alias_classes.proofs.walk.next_words.Given as goal

abbrev pub invariant-loop-word : goal.invariant-loop-word
invariant-loop-word l = (length l.skips.items ≡ l.word) × ((v : ℕ) → v < l.word → get_or l.skips.items v 0 ≡ v + 1)
