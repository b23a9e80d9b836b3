use Rattle.std.proofs.Common.{◌≡◌, ◌+◌, ◌*◌, ◌<◌, ◌≤◌, ℕ, false}
use Rattle.class_set.specs.Members.{bit_of}
use Rattle.class_set.proofs.words.least_from.Given as goal

abbrev pub invariant-loop-at : goal.invariant-loop-at
invariant-loop-at l = record {
  in_word : l.low < 64;
  from : l.first ≤ 64 * l.at + l.low;
  passed : (k : ℕ) → l.first ≤ k → k < 64 * l.at + l.low → bit_of l.words k ≡ false;
}
