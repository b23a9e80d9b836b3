-- Runs as far as they have come.
use Rattle.std.proofs.Common.{◌≡◌, ℕ, true, ◌<◌, ◌≤◌, List, length, get_or}
use Rattle.class_set.specs.declared.ClassSet.{ClassSet}
use Rattle.class_set.specs.ClassSet.{holds}

-- the starts of the words below n
pub record StartsSoFar (numbers : List ℕ) (n : ℕ) (starts : List ℕ) : Type 0 where
  pub each : length starts ≡ n
  pub before : (v : ℕ) → v < n → get_or starts v 0 ≤ v
  pub same : (v u : ℕ) → v < n → get_or starts v 0 ≤ u → u ≤ v → get_or numbers u 0 ≡ get_or numbers v 0

-- the classes of the words from `word` on
pub record SetSoFar {W : ℕ} (numbers : List ℕ) (begin word end : ℕ) (set : ClassSet W) : Type 0 where
  pub within : word ≤ end
  pub sound : (n : ℕ) → holds set n ≡ true → (v : ℕ) × (begin ≤ v) × (v < end) × (get_or numbers v 0 ≡ n)
  pub whole : (v : ℕ) → word ≤ v → v < end → holds set (get_or numbers v 0) ≡ true
