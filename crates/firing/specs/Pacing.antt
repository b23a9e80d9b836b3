-- A source that runs in stages, an order that stays in lockstep with it, and what every order then does.
use Rattle.std.specs.Prelude.{◌≡◌, ◌≢◌, ◌≤◌, ◌⊎◌, ℕ, List, length, Some, None}
use Rattle.op_table.specs.declared.Trap.{Trap}
use Rattle.firing.specs.Moves.{Moves}
use Rattle.firing.specs.Orders.{IsOrder, IsOver, IsPrefix, Settles, Traps, after, serial_count, written}

-- where a source is: it goes on, has ended, or has trapped
pub data Stage : Type 0 where
  Going : Stage
  Done : Stage
  Failed : (trap : Trap × ℕ) → Stage

-- what an order has come to where the source is at this stage
abbrev pub StandsAt : {M : Type 0} → Moves M → M → Stage → Type 0
StandsAt s m Going = s.trap m ≡ None
StandsAt s m Done = (s.trap m ≡ None) × IsOver s m
StandsAt s m (Failed trap) = s.trap m ≡ Some trap

-- the source has stopped, or the order has at least so many serial firings
pub record IsBusy {M : Type 0} (s : Moves M) (own : ℕ → List ℕ) (stage : ℕ → Stage) (count : ℕ) : Type 0 where
  pub at : ℕ
  pub enough : (stage at ≢ Going) ⊎ (count ≤ serial_count s (own at))

-- For each number of steps of the source there is an order in step with it, with the same output. A source that doesn't
-- stop makes serial nodes fire again and again.
pub record IsSimulation {M : Type 0} (s : Moves M) (start : M) (text : ℕ → List ℕ) (stage : ℕ → Stage) (own : ℕ → List ℕ) : Type 0 where
  pub order : (n : ℕ) → IsOrder s start (own n)
  pub stands : (n : ℕ) → StandsAt s (after s start (own n)) (stage n)
  pub lines : (n : ℕ) → written s start (own n) ≡ text n
  pub busy : (count : ℕ) → IsBusy s own stage count

-- the output is a prefix of the source's
pub record WritesPrefix (text : ℕ → List ℕ) (output : List ℕ) : Type 0 where
  pub steps : ℕ
  pub prefix : IsPrefix output (text steps)

-- the source has ended, at the same marking and after as many firings
pub record EndsWith {M : Type 0} (s : Moves M) (start : M) (text : ℕ → List ℕ) (stage : ℕ → Stage) (own : ℕ → List ℕ) (ks : List ℕ) : Type 0 where
  pub steps : ℕ
  pub done : stage steps ≡ Done
  pub count : length ks ≡ length (own steps)
  pub is : after s start ks ≡ after s start (own steps)
  pub lines : written s start ks ≡ text steps

-- the source has trapped, with the same trap and output
pub record TrapsWith (text : ℕ → List ℕ) (stage : ℕ → Stage) (trap : Trap × ℕ) (output : List ℕ) : Type 0 where
  pub steps : ℕ
  pub failed : stage steps ≡ Failed trap
  pub lines : output ≡ text steps

-- Whatever the order, its output is a prefix of the source's; it rests only where the source has ended, and traps only
-- where the source has trapped. Where the source ends, every order comes to rest; where it traps, none ends otherwise.
pub record FollowsSource {M : Type 0} (s : Moves M) (start : M) (text : ℕ → List ℕ) (stage : ℕ → Stage) (own : ℕ → List ℕ) : Type 0 where
  pub prefix : (ks : List ℕ) → IsOrder s start ks → WritesPrefix text (written s start ks)
  pub rests : (ks : List ℕ) → IsOrder s start ks → IsOver s (after s start ks) → s.trap (after s start ks) ≡ None → EndsWith s start text stage own ks
  pub traps : (ks : List ℕ) (trap : Trap × ℕ) → IsOrder s start ks → s.trap (after s start ks) ≡ Some trap → TrapsWith text stage trap (written s start ks)
  pub ends : (n : ℕ) → stage n ≡ Done → Settles s start (length (own n)) (after s start (own n))
  pub fails : (n : ℕ) (trap : Trap × ℕ) → stage n ≡ Failed trap → Traps s start trap
