use Rattle.std.proofs.Common.{◌≡◌, ℕ, ◌<◌, ◌≤◌, List, Some}
use Rattle.std.specs.Ordering.{nat_cmp}
use Rattle.std.specs.BTreeMap.{get}
use Rattle.storage_checks.specs.GivenWords.{HoldsBeside}
use Rattle.storage_checks.proofs.given_words.GivenWords.take_out.Given as goal

abbrev pub invariant-loop-other : goal.invariant-loop-other
invariant-loop-other l = record {
  some : l.from < l.to;
  within : l.word ≤ l.to;
  beside : (seen : List ℕ) → HoldsBeside (get nat_cmp l.initial.self.ends) l.first l.end seen → HoldsBeside (get nat_cmp l.self.ends) l.from l.to seen;
  beyond : (seen : List ℕ) → HoldsBeside (get nat_cmp l.initial.self.ends) l.first l.end seen → (q last : ℕ) → get nat_cmp l.self.ends q ≡ Some last → l.word ≤ q → l.to ≤ q;
}

abbrev pub decreases-loop-other : goal.decreases-loop-other
decreases-loop-other l = l.word
