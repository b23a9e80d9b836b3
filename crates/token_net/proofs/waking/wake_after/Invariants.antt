use Rattle.std.proofs.Common.{◌<◌, ◌≤◌, ◌+◌, ◌-◌, ℕ, suc, All, Contains, vec_len, vec_capacity}
use Rattle.token_net.specs.WokenList.{Keeps}
use Rattle.token_net.proofs.waking.wake_after.Given as goal

abbrev pub invariant-loop-k : goal.invariant-loop-k
invariant-loop-k l = record {
  has : (j : ℕ) → l.first < j → j < l.k → Contains l.woken.items j;
  kept : Keeps l.fn.woken.items l.woken.items;
  nodes : (n : ℕ) → All (λ (j : ℕ). j < n) l.fn.woken.items → l.end ≤ n → All (λ (j : ℕ). j < n) l.woken.items;
  few : vec_len l.woken ≤ vec_len l.fn.woken + (l.k - suc l.first);
  capacity : vec_capacity l.fn.woken ≤ vec_capacity l.woken;
}
