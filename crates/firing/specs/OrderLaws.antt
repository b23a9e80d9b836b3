-- What holds of every order of firing and of every run, as statements.
use Rattle.std.specs.Prelude.{◌≡◌, ◌<◌, ◌≤◌, ℕ, List, length, Some, None, ◌≢◌}
use Rattle.firing.specs.Moves.{Moves, CanFire}
use Rattle.op_table.specs.declared.Trap.{Trap}
use Rattle.firing.specs.Orders.{IsOrder, IsOver, Settles, Traps, after, serial_count, WritesPrefixOf, IsWhole}
use Rattle.firing.specs.declared.playing.PlayEnd.{PlayEnd}
use Rattle.firing.specs.declared.playing.PlayEnd.TheVariants.{Limit}
use Rattle.firing.specs.Control.{Course}
use Rattle.firing.specs.Play.{Moment, Way, played, node_at, by_order, by_picks, moment}
use Rattle.firing.specs.Pacing.{FollowsSource, IsSimulation, Stage}
use Rattle.firing.specs.Resuming.{GoesOn, turned}
use Rattle.firing.specs.Runs.{IsRun}
use Rattle.firing.specs.SourceOrder.{IsDueOrder}

module _ {M : Type 0} (sound : M → Type 0) (s : Moves M) where
  -- where one order of firing comes to rest without a trap, each does, after as many firings, at the same marking
  abbrev pub OrdersRestAlike : Type 0
  OrdersRestAlike = (m : M) (ks : List ℕ) → sound m → IsWhole s m ks → s.trap (after s m ks) ≡ None → Settles s m (length ks) (after s m ks)

  -- where one traps, none ends without that trap, and each that ends has the same output
  abbrev pub OrdersTrapAlike : Type 0
  OrdersTrapAlike = (m : M) (ks : List ℕ) (trap : Trap) (line : ℕ)
      → sound m → IsOrder s m ks → s.trap (after s m ks) ≡ Some (trap, line) → Traps s m (trap, line)

  -- an order with no more serial firings than another writes a prefix of what that one writes, where that one doesn't trap
  abbrev pub ShorterOrdersWritePrefixes : Type 0
  ShorterOrdersWritePrefixes = (m : M) (ks others : List ℕ)
      → sound m → IsOrder s m ks → IsOrder s m others → s.trap (after s m others) ≡ None → serial_count s ks ≤ serial_count s others
      → WritesPrefixOf s m ks others

  -- where one order stays in lockstep with a source, every order follows the source
  abbrev pub OrdersFollowSources : Type 0
  OrdersFollowSources = (start : M) (text : ℕ → List ℕ) (stage : ℕ → Stage) (own : ℕ → List ℕ)
      → sound start → IsSimulation s start text stage own → FollowsSource s start text stage own

-- where the nodes that are due come to an end within the limit, a run in the source's own order doesn't stop at the limit
abbrev pub DueOrdersEnd : {M P : Type 0} → Moves M → Course M P → Type 0
DueOrdersEnd {M = M} {P = P} s course = (m : M) (p : P) (ks : List ℕ) (limit n : ℕ) (end : PlayEnd)
    → IsDueOrder s course m p ks → IsOver s (after s m ks) → length ks ≤ limit → IsRun (by_order s course) (moment m (Some p)) limit n end
    → end ≢ Limit

-- each run by picks that was stopped goes on by the picks turned
abbrev pub RunsByPicksGoOn : {M P : Type 0} → Moves M → Course M P → Type 0
RunsByPicksGoOn {M = M} {P = P} s course = (picks : List ℕ) (start : Moment M P) (a : ℕ)
    → 0 < length picks → GoesOn (by_picks s course picks) start a (by_picks s course (turned a picks))

module _ (M P : Type 0) where
  -- a run has one end and one number of firings
  abbrev pub RunsHaveOneEnd : Type 0
  RunsHaveOneEnd = (w : Way M P) (start : Moment M P) (limit n m : ℕ) (end other : PlayEnd)
      → IsRun w start limit n end → IsRun w start limit m other → (n ≡ m) × (end ≡ other)

  -- there are never more firings than those of the run
  abbrev pub RunsAreLongest : Type 0
  RunsAreLongest = (w : Way M P) (start : Moment M P) (limit n m : ℕ) (end : PlayEnd)
      → IsRun w start limit m end → n ≤ limit → ((j : ℕ) → j < n → CanFire w.moves (played w start j).marking (node_at w start j)) → n ≤ m
