use Rattle.std.proofs.Common.{◌≡◌, ◌<◌, ◌≤◌, ℕ, get_or, bit_and}
use Rattle.class_set.proofs.words.intersect.Given as goal

abbrev pub invariant-loop-i : goal.invariant-loop-i
invariant-loop-i l = record {
  done : (k : ℕ) → k < l.i → get_or l.words k 0 ≡ bit_and (get_or l.fn.words k 0) (get_or l.others k 0);
  rest : (k : ℕ) → l.i ≤ k → get_or l.words k 0 ≡ get_or l.fn.words k 0;
}
