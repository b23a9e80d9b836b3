-- What was added to a list.
use Rattle.std.specs.Prelude.{◌<◌, ◌⊎◌, ℕ, List, Contains}

-- Of these things those that P holds of were added to the list, and no others.
pub record Adds {X : Type 0} (old new : List X) (P : X → Type 0) : Type 0 where
  pub kept : (x : X) → Contains old x → Contains new x
  pub told : (x : X) → Contains new x → Contains old x ⊎ P x
  pub all : (x : X) → P x → Contains new x

-- one of the first k holds of it
unfoldable pub Below : {X : Type 0} → (P : ℕ → X → Type 0) → (k : ℕ) → X → Type 0
Below {X} P k x = (i : ℕ) × (i < k) × P i x
