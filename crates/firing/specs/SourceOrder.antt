-- The source's own order: which node it fires next, by the place of control.
use Rattle.std.specs.Prelude.{◌≡◌, ◌<◌, ◌≤◌, ℕ, zero, suc, List, [], ◌∷◌, Some, None}
use Rattle.firing.specs.declared.system.Fired.{Fired}
use Rattle.firing.specs.Control.{Course}
use Rattle.firing.specs.Moves.{Moves, CanFire, FiredIs, IsSilent, newest}
use Rattle.firing.specs.Orders.{IsOver}
use Rattle.firing.specs.Play.{Moment, Way, node_at, played}

-- Where nothing has trapped, a node that is due can fire, and where none is due, none can.
pub record IsSourceOrder {M P : Type 0} (sound : M → Type 0) (s : Moves M) (course : Course M P) (in_step : M → P → Type 0) : Type 0 where
  pub fires : (m : M) (p : P) (k : ℕ) → sound m → in_step m p → s.trap m ≡ None → course.due m p ≡ Some k → CanFire s m k
  pub over : (m : M) (p : P) → sound m → in_step m p → s.trap m ≡ None → course.due m p ≡ None → IsOver s m

-- from this place on, each node is due in its turn
abbrev pub IsDueOrder : {M P : Type 0} → Moves M → Course M P → M → P → List ℕ → Type 0
IsDueOrder s course m p [] = Unit {0}
IsDueOrder s course m p (k ∷ ks) = (course.due m p ≡ Some k) × IsDueOrder s course (s.fired m k) (course.moved m p) ks

-- ---- several firings at once

-- So many firings, at least one and not more than `most`, of which none but the last one writes a line or traps.
pub record FiresTo {M P : Type 0} (w : Way M P) (start : Moment M P) (most count : ℕ) (fired : Fired) (end : Moment M P) : Type 0 where
  pub some : 0 < count
  pub bounded : count ≤ most
  pub leads : end ≡ played w start count
  -- each node can fire in its turn
  pub going : (n : ℕ) → n < count → CanFire w.moves (played w start n).marking (node_at w start n)
  pub silent : (n : ℕ) → suc n < count → IsSilent w.moves (played w start n).marking (node_at w start n)
  -- what the last one did
  pub last : (n : ℕ) → suc n ≡ count → FiredIs w.moves (played w start n).marking (node_at w start n) fired

-- the newest line after n firings
abbrev pub newest_after : {M P : Type 0} → Way M P → Moment M P → ℕ → List ℕ → List ℕ
newest_after w start zero old = old
newest_after w start (suc n) old = newest (w.moves.line (played w start n).marking (node_at w start n)) (newest_after w start n old)
