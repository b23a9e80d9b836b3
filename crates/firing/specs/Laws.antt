-- The laws of firing: of two nodes that may both fire, the firings commute (the diamond property).
use Rattle.std.specs.Prelude.{◌≡◌, ◌≢◌, ℕ, true, false, None}
use Rattle.firing.specs.Moves.{Moves, CanFire, IsSilent}

-- two nodes that may both fire, at a marking that can come
pub record AreReady {M : Type 0} (sound : M → Type 0) (s : Moves M) (m : M) (j k : ℕ) : Type 0 where
  pub is_sound : sound m
  pub differ : j ≢ k
  pub first : CanFire s m j
  pub second : CanFire s m k

pub record IsLawful {M : Type 0} (sound : M → Type 0) (s : Moves M) : Type 0 where
  -- in either order they lead to the same marking
  pub either_order : (m : M) (j k : ℕ) → AreReady sound s m j k → s.fired (s.fired m j) k ≡ s.fired (s.fired m k) j
  -- a firing leaves the other ready, also where it traps
  pub stays_ready : (m : M) (j k : ℕ) → AreReady sound s m j k → s.ready (s.fired m j) k ≡ true
  -- they are not both serial
  pub one_serial : (m : M) (j k : ℕ) → AreReady sound s m j k → s.serial j ≡ true → s.serial k ≡ false
  -- a firing without a trap changes neither the line that the other writes nor its trap
  pub same_line : (m : M) (j k : ℕ) → AreReady sound s m j k → s.trap (s.fired m j) ≡ None → s.line (s.fired m j) k ≡ s.line m k
  pub same_trap : (m : M) (j k : ℕ) → AreReady sound s m j k → s.trap (s.fired m j) ≡ None → s.trap (s.fired (s.fired m j) k) ≡ s.trap (s.fired m k)
  -- only serial nodes write or trap
  pub silent : (m : M) (k : ℕ) → sound m → CanFire s m k → s.serial k ≡ false → IsSilent s m k
  -- the marking after a firing can come too
  pub stays_sound : (m : M) (k : ℕ) → sound m → CanFire s m k → sound (s.fired m k)
