-- Runs of words of one class, and the classes of the words between two places.
use Rattle.std.specs.Prelude.{◌≡◌, ℕ, ◌<◌, ◌≤◌, true, List, length, slice_index, Bool, ◌&&◌, nat_lt, ◌-◌, ◌==◌, slice_index_or}
use Rattle.class_set.specs.declared.ClassSet.{ClassSet}
use Rattle.class_set.specs.ClassSet.{holds}

-- the words from the start of a word up to that word have its class
pub record AreStarts (numbers starts : List ℕ) : Type 0 where
  pub each : length starts ≡ length numbers
  pub before : (v : ℕ) → v < length numbers → slice_index starts v ≤ v
  pub same : (v u : ℕ) → v < length numbers → slice_index starts v ≤ u → u ≤ v → slice_index numbers u ≡ slice_index numbers v

-- the members of the set are the classes of the words from `begin` up to, but not with, `end`
pub record IsSetOf {W : ℕ} (numbers : List ℕ) (begin end : ℕ) (set : ClassSet W) : Type 0 where
  pub sound : (n : ℕ) → holds set n ≡ true → (v : ℕ) × (begin ≤ v) × (v < end) × (slice_index numbers v ≡ n)
  pub whole : (v : ℕ) → begin ≤ v → v < end → holds set (slice_index numbers v) ≡ true

-- the word before this one has the same number
abbrev pub is_after_its_like : List ℕ → ℕ → Bool
is_after_its_like numbers word = nat_lt 0 word && slice_index numbers (word - 1) == slice_index numbers word

-- each set holds the classes of the words of its span
abbrev pub AreSetsOf : {W : ℕ} → List ℕ → (begins ends : List ℕ) → List (ClassSet W) → Type 0
AreSetsOf {W = W} numbers begins ends sets = (k : ℕ) (d : ClassSet W)
    → k < length begins → IsSetOf numbers (slice_index begins k) (slice_index ends k) (slice_index_or sets k d)
