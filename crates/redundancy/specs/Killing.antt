-- Sets with members in common. No public clause cites this module.
use Rattle.std.specs.Prelude.{◌≡◌, ◌<◌, ◌≤◌, ◌*◌, ◌==◌, ℕ, true, false, List, length, slice_index, slice_index_or}
use Rattle.class_set.specs.declared.ClassSet.{ClassSet}
use Rattle.class_set.specs.ClassSet.{holds}
use Rattle.redundancy.specs.Available.{has_bit}

-- some number is a member of both sets
abbrev pub Meet : {W : ℕ} → ClassSet W → ClassSet W → Type 0
Meet a b = (n : ℕ) × (holds a n ≡ true) × (holds b n ≡ true)

module _ {W : ℕ} where
  -- the set has this member alone
  pub record IsOnly (set : ClassSet W) (n : ℕ) : Type 0 where
    pub within : n < 64 * W
    pub only : (k : ℕ) → holds set k ≡ (k == n)

  -- the word of each number has the bits of those of the first sets that have it, and no other bit
  pub record AreUsers (sets : List (ClassSet W)) (count : ℕ) (users : List ℕ) : Type 0 where
    pub all : length users ≡ 64 * W
    pub told : (n k : ℕ) (d : ClassSet W) → n < 64 * W → k < count → has_bit (slice_index users n) k ≡ holds (slice_index_or sets k d) n
    pub blank : (n k : ℕ) → n < 64 * W → count ≤ k → has_bit (slice_index users n) k ≡ false
